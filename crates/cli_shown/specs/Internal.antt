-- The blocks that a path goes through, and its steps.
pub mod Trail
