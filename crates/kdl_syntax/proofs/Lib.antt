-- Tokens: one at most, and what the lexer returns.
pub mod Lexing
-- Strings, numbers and keywords before another rest, and their ends.
pub mod Moving
-- A whole number is one of 128 bits.
pub mod Fitting
-- The two places of a token are in order.
pub mod Order
-- The lemmas that the functions of a file cite.
pub mod Rules
-- The open blocks, the last one at the end.
pub mod OpenBlocks
