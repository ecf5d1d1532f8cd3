-- Lines, positions and edits of a text, as the Language Server Protocol has them.
pub mod Positions
-- The same, read from left to right, for proofs alone.
pub mod Steps
-- The lines of a text, and edits of whole lines.
pub mod Lines
