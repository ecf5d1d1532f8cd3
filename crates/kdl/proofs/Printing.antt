-- Printing over a stack of blocks.

-- What is left to print, turn by turn.
pub mod PrintingLoop
-- What nodes and documents print, part by part.
pub mod PrintedParts
