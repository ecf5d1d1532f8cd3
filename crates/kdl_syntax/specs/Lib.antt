-- Strings, numbers and keywords as they are written.
pub mod Pieces
-- Tokens, and the cut of a text into tokens.
pub mod Tokens
-- The control grammar: which tokens may come.
pub mod Control
-- The control of an entry text: which token may come where.
pub mod EntryControl
-- The control of a node text.
pub mod NodeControl
-- Definitions that only proofs and contracts inside the crates use.
pub mod Internal
