-- Definitions that only proofs and contracts inside the crates use: no contract of a public call of `kdl` mentions them.

-- How many documents and nodes there are in documents and nodes: the measure by which dropping ends.
pub mod Count
-- The kinds of tokens for a control.
pub mod Kinds
-- Nodes that are due to be cleared, and what clearing does to one of them.
pub mod Due
-- The newlines that nodes lack at their ends.
pub mod Ends
-- How far layout has come while some blocks are open.
pub mod Spacing
-- What is left to print when some of the nodes and blocks are printed.
pub mod Left
-- Which copies there are when some of the nodes and blocks are copied.
pub mod Copied
