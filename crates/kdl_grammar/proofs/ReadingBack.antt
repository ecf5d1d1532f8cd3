-- What reads back wherever it may be: derived, composed, found where a tree is laid.

-- What a document that reads back prints is derived, with its data.
pub mod Reads
-- What reads back, put together and taken apart.
pub mod Composing
-- Spaces and what comes before an entry, before another rest.
pub mod Following
-- What ends a line or a node, before any rest.
pub mod Closing
-- What is laid in a text reads back wherever it may be.
pub mod LaidReads
-- Entries without format and spelling, entries with another value, and nodes made of a name read back.
pub mod Entries
