-- A document that is taken apart along a path.
pub mod Opened
-- Places in a text that is read character by character.
pub mod Places
-- Entries that are only a value.
pub mod Values
-- What is parsed from a text that C gives.
pub mod Given
-- A node after a change.
pub mod Done
