-- Definitions that only proofs and contracts inside the crates use: no contract of a public call of `kdl` mentions them.

-- What is proved of the machine that builds the tree, and of the tokens of a document.
pub mod MachineLaws
-- The machine that builds the tree: it reads the tokens of a text once, with a stack of open blocks.
pub mod Machine
