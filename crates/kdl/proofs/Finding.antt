-- Look-ups in nodes and documents.

-- Nodes found by their name.
pub mod DocumentLookups
-- What look-ups in a node find, and nodes with one entry changed.
pub mod NodeLookups
-- What look-ups find in memory is what the data say.
pub mod SaidLookups
-- What is found in a list by a test, once an element is put in, exchanged or taken out.
pub mod ListLookups
-- What a node's look-ups find once an entry is inserted, pushed or removed.
pub mod EntriesFound
-- What a document's look-ups find once an argument is written.
pub mod NodesFound
-- What a document says once a property of one of its nodes is set.
pub mod SaidEdits
