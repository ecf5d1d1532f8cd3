-- How many nodes and documents wait.
pub mod Counts
