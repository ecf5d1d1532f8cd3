-- What a handle owns.
pub mod Held
-- What the calls return.
pub mod Answers
-- Look-ups of nodes by their path.
pub mod Paths
-- The data in rows, whose texts are in the strings that were written.
pub mod Says
-- Strings that are written one after another, up to the first that does not fit.
pub mod Strings
-- Lines and columns.
pub mod Positions
-- What documents print after they are formatted.
pub mod LaidOut
-- Documents with one node changed, and all other nodes as before.
pub mod Changes
-- Entries of a node.
pub mod Entries
-- The result of each edit of a node, of an entry, or of a document.
pub mod Edits
-- Rows whose texts are in the strings that were written.
pub mod Rows
-- The data in the rows of a document, in order.
pub mod Flat
-- The faults of a text, with their labels and helps.
pub mod Reports
-- The faults of a text as they are written: their rows, and the strings to which the rows refer.
pub mod Listed
-- Texts that are read as documents, nodes, entries or values.
pub mod Reading
-- Definitions that no contract of an exported call mentions.
pub mod Internal
