-- Blocks that stay on one line.

-- Of what is on one line, layout keeps no comment and no blank line.
pub mod Nothing
-- What does not change where a block is put on one line.
pub mod Same
-- A block on one line reads back.
pub mod Reads
-- A second layout changes nothing.
pub mod Again
-- Values that are not on one line, and others that are.
pub mod Examples
