-- What is returned on a whole text.

-- What holds between the turns of the loop, and what is returned in a turn.
pub mod Turns
-- What the result on a whole text says of the grammar.
pub mod Outcomes
-- What each reader of a whole text promises beside its result.
pub mod Parsing
-- Every edited document of a result reads back.
pub mod EditedOutcomes
-- A text with U+FEFF before it, or without.
pub mod LeadingBom
-- Line-spaces, read token by token to the end of a text.
pub mod LineSpaceReads
-- Nodes that are a whole text.
pub mod NodeTexts
-- An accepted document is derived, and so is an accepted node text.
pub mod Accepted
