-- The blocks that are due have the breaches that are still to be found.
pub mod DueBlocks
