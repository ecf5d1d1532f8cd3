-- Numbers as JSON writes them.
pub mod Numbers
-- The tokens of a value.
pub mod Values
-- The keys of nodes and entries differ.
pub mod Keys
-- Tokens after the first one.
pub mod Tokens
-- A failure that is passed on.
pub mod Memory
-- Identifiers that are read from a string.
pub mod Identifiers
-- Values that are read.
pub mod ReadValues
-- Entries that were taken, and those that are left.
pub mod Entries
-- Open blocks, and the tokens that complete them.
pub mod Blocks
-- The steps of a read over open blocks.
pub mod Steps
-- The open nodes in memory.
pub mod Frames
-- Nodes and documents that are built.
pub mod Built
-- They keep no form.
pub mod Plain
-- Nor do the nodes whose blocks are being read.
pub mod OpenNodes
-- What follows of a result.
pub mod Results
-- How many tokens there are.
pub mod Longer
-- Entries and nodes in memory are fit.
pub mod Fit
-- Tokens appended one after another.
pub mod Appending
-- A walk over the nodes of a document.
pub mod Walking
-- Tokens are those of one document's data.
pub mod Unique
-- The JSON of data reads back as its tokens.
pub mod Printable
