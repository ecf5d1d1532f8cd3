-- Where the lines and the positions of a text are.
pub mod Places
-- The lines of a text, by its bytes.
pub mod Bytes
-- The position of a character, and the character of a position, are inverse.
pub mod Inverse
-- An edit of a text is an edit of its units of 16 bits.
pub mod Units
-- The lines of a text, and where two lists of lines differ.
pub mod Differing
-- Edits of whole lines, one after another.
pub mod WholeLines
-- A walk over a text, which may begin at a place in it.
pub mod Walking
-- Edits of some lines, taken one after another.
pub mod Within
-- Which edits are tight.
pub mod Tight
-- Edits that are no edits of whole lines, or not those within some lines.
pub mod Examples
