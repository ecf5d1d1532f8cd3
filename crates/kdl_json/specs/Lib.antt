-- The JSON of data.
pub mod Form
-- Texts that are written for a value.
pub mod Values
-- Nodes without their children, and the tokens of them.
pub mod Heads
-- Tokens that do not begin with a key.
pub mod Keys
-- Tokens that are still to be read, and tokens that are written.
pub mod Reading
pub mod Writing
