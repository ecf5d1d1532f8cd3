-- Printed queries are read back, part by part.
-- What memory says of texts and values.
pub mod Held
-- Names, and what may follow them.
pub mod Names
-- Types, accessors, literals and tests.
pub mod Parts
-- Nodes.
pub mod Nodes
-- Selectors and queries.
pub mod Queries
-- Texts and values in memory.
pub mod InMemory
-- Pieces, written one after another.
pub mod Written
