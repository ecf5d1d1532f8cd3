-- What a writer that holds what it held is not.
pub mod Refuted
-- What is written by several writes.
pub mod WriteSteps
