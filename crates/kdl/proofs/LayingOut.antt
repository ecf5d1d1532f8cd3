-- Layout over a stack of blocks.

-- Blocks that are laid out, step by step.
pub mod BlockSteps
-- Nodes and documents whose parts were laid out.
pub mod PartsSpaced
-- A block that is laid out, with its texts.
pub mod OneLine
-- Nodes on one line: whether they are, and their formats.
pub mod Lines
-- Nodes that still read back, after each step.
pub mod StaysReading
-- What the calls that lay out promise.
pub mod LayoutCalls
