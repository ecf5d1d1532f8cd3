-- A text has at most one reading as a PATH.
pub mod PathTexts
-- What the readers of PATHs return.
pub mod PathReads
-- The lemmas that the functions of a file cite.
pub mod Rules
-- What a PATH names in memory, and in the data.
pub mod Places
-- The tree of a document with the node at a path changed.
pub mod Trees
-- A value that is set.
pub mod Values
-- A change to the node at the end of a path of indices.
pub mod Changes
-- An entry that is appended or removed, and a node in a block that is removed.
pub mod Removals
-- A node after spaces, and with an end.
pub mod Ends
-- A node that is put into a block, in the data.
pub mod Inserts
-- A document without a node, or without an entry, and one with a node more.
pub mod Removed
-- The texts after an edit, and what they had to have before.
pub mod Edited
-- A value that is missing is made at a PATH.
pub mod Made
-- A value that is made at a PATH is there.
pub mod There
-- What failures mean.
pub mod Failing
-- What can be made at a PATH, in memory and in the data.
pub mod Making
-- Every node to which steps lead, in memory and in the data.
pub mod Reached
-- The data after an edit at the end of steps, and at a path of indices.
pub mod Along
-- What an edit at a path leaves at the paths before it.
pub mod Apart
-- Edits at paths, from the last path to the first, are an edit of each node at one of the paths.
pub mod Everywhere
-- A document after an edit at each of some paths.
pub mod Selected
-- The data of a document after edits at paths.
pub mod Examples
-- A value is set in its own place.
pub mod Elsewhere
-- A document that is open along a path: what is changed in the innermost block is changed in the whole.
pub mod Cursors
