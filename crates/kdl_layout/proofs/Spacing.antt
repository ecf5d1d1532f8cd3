-- Blank lines that stay between nodes and comments.

-- What is read and written of a text between nodes, from its items.
pub mod Reads
-- What is counted in the lines that are written, and that what is kept is a gap, and holds the items of its text.
pub mod Lines
-- What layout with blank lines makes flags no entry, and no level is too great.
pub mod Stays
-- The texts around nodes are the same after a second layout.
pub mod TextsAgain
-- A second layout changes nothing.
pub mod Again
