-- Where a writer of JSON is.
pub mod Nesting
-- Where a writer of symbols is.
pub mod Levels
