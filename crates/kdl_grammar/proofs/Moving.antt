-- Pieces before another rest, and the ends of pieces.

-- What follows a piece of a document is an end of the text.
pub mod Ends
-- Gaps, nodes and blocks come before another rest too.
pub mod Moves
-- What the former language derives, the present one derives.
pub mod FormerIsPresent
