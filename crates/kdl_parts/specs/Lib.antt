-- What an edit of a list of entries requires, and its result.
pub mod Edits
-- Where look-ups find an entry.
pub mod EntryLists
-- The texts around nodes and documents, as characters.
pub mod Formats
-- What the mutable iterator over the entries of a node has left.
pub mod Iterators
-- What is printed of a node, part by part.
pub mod Printed
-- A list of entries in memory, after a write through a reference to one of them.
pub mod Written
