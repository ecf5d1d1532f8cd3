-- What calls of a reader or a writer do to the flags on it.
pub mod Flags
-- What is known of a writer.
pub mod Streams
-- What a writing function writes, by what it returns.
pub mod Writing
