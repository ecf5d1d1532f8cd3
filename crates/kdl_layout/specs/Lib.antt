-- The comments and slashdashed pieces in a text around nodes or entries, in order. Nothing inside a slashdashed piece is an item.
pub mod Items
-- How many newlines a text around nodes lacks for whatever follows it not to become part of it.
pub mod Lacks
-- How items are written when a document is laid out.
pub mod Written
-- The number of blank lines before a node, or before an item between nodes.
pub mod Blank
-- The canonical text of the data of documents and nodes, whatever their form.
pub mod Canonical
-- The canonical text, but for blocks and documents without nodes.
pub mod Compact
-- The comments and slashdashed pieces in a document, in the order of printing.
pub mod Comments
-- The configuration of layout.
pub mod Config
-- The result of layout if comments are removed: only formats and spellings change.
pub mod Formatted
-- What layout keeps of the comments and slashdashed pieces in a place.
pub mod Kept
-- Entries whose kept form reads back.
pub mod KeptForm
-- Blocks that stay on one line.
pub mod OneLine
-- The parts of a node and a document, laid out.
pub mod Parts
-- The texts around nodes and documents if no comments are kept.
pub mod Plain
-- The result of layout if spellings are kept.
pub mod Respelled
-- The result of layout, with the comments and blank lines that it keeps.
pub mod Spaced
-- Data that memory can hold.
pub mod WellFormed
-- The result of layout if no blank lines are kept.
pub mod WithComments
-- Definitions that only proofs and contracts inside the crates use.
pub mod Internal
