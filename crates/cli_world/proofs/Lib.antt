-- What is done with a file, and with files in turn.
pub mod Acting
-- The lines on standard error.
pub mod Lines
-- What does not happen.
pub mod Refuted
