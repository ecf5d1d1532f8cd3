-- Tokens: one at most, and what the lexer returns.

-- A text begins with one token at most.
pub mod TokenUnique
-- The first two characters of a token tell which tokens are refused with it.
pub mod TokenFronts
-- What the readers of tokens cost.
pub mod TokenCost
-- From what the readers return to the tokens of the whole language.
pub mod TokenReads
-- What the first characters of a token tell.
pub mod FirstCharacters
-- Strings in any spelling, numbers and keywords: one at most.
pub mod StringUnique
-- What is next in a text at a slash, and at a letter.
pub mod Slashes
