-- What a text around nodes lacks, so that whatever follows it is not part of it.

-- How node-spaces and line-spaces end, and the items that they add.
pub mod SpaceEnds
-- Nodes after a gap's pieces, and a letter after them that adds no node: fewer newlines are not enough.
pub mod Fewest
-- The pieces of a gap: their items, and what they add to the nodes after them.
pub mod GapPieces
-- The pieces of a place in a node: their items, and what the text may come before.
pub mod PlacePieces
-- A terminator and the gap after it.
pub mod Terminators
-- What may come before a `}` may be a whole text.
pub mod Alone
