-- Equality and order of values.
pub mod Comparing
-- The texts of floats.
pub mod Floating
-- Printed values, and that they read back.
pub mod Spelling
-- Values in memory are well formed.
pub mod WellFormed
