-- Definitions that only proofs and contracts inside the crates use: no contract of a public call of `kdl` mentions them.

-- What is returned for the text before the lexer, in terms of the tree of a node.
pub mod Answered
-- The states to which the builder's methods bring it, in terms of the machine, and what is not sliced there yet.
pub mod States
-- The machine's state that the builder's fields represent, and what its steps return.
pub mod Building
-- The steps of a parse: for the tokens, and for the texts that the builder slices.
pub mod Counted
-- The machine's states inside what is slashdashed, by those of the machine without data.
pub mod Dropping
-- The state to which a token brings the builder, by what it is for the tree.
pub mod Events
-- Only line-spaces, up to the end of a text.
pub mod LineSpaces
-- Nodes that are a whole text, and what is returned on one.
pub mod NodeText
-- The trees of nodes and documents from their parts, for a given tree of a node.
pub mod Parts
-- What the readers of whole texts promise, and the steps of a parse.
pub mod Steps
-- The turn of a token: it is slashdashed, or what is slashdashed is over before it, or nothing is.
pub mod Turns
-- Documents that are a whole text.
pub mod Whole
