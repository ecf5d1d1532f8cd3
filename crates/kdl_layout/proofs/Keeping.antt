-- Comments and slashdashed items that layout keeps.

-- What is kept of a text, from the items that were read in it.
pub mod KeptReads
-- What is kept may occur where it is written, and holds the items of its text.
pub mod KeptPlaces
-- A document has one list of items at most.
pub mod ListUnique
-- A document that is laid out has a list of items.
pub mod ListExists
-- Comments inside entries and types: what is kept of them.
pub mod InnerItems
-- Layout loses no comment.
pub mod CommentsStay
-- Gaps that come before any other gap, with their items.
pub mod GapFronts
-- The texts around the nodes of a block.
pub mod Blocks
