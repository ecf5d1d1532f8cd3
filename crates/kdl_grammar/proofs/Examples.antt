-- Worked examples of the grammar.

-- The tokens of small texts.
pub mod Tokens
-- Small texts that are documents, and such that are none.
pub mod Documents
-- The same of decimals, strings between quotes and keywords.
pub mod Values
