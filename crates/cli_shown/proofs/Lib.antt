-- Strings without quotes.
pub mod Quoting
-- What nodes print after their leading texts.
pub mod Texts
-- What is shown of the nodes at paths.
pub mod Views
-- The steps of a PATH.
pub mod Steps
-- The blocks that a path goes through, and its steps.
pub mod Blocks
