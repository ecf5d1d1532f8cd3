-- Newlines, spaces, comments and esclines.

-- A text begins with one newline at most.
pub mod NewlineUnique
-- A text begins with one comment, or one space, at most.
pub mod SpaceUnique
-- Comments and spaces are pieces of their text.
pub mod SpacePieces
-- What the readers of lines, spaces, comments and esclines return.
pub mod SpaceReads
-- What the readers of esclines return, and why none was read.
pub mod EsclineReads
-- Block comments inside each other: what the count of open ones says.
pub mod CommentDepth
-- The loop over a block comment.
pub mod CommentLoop
-- The loop to the end of a line.
pub mod LineLoop
-- What may come after a value.
pub mod ValueEnds
