-- Definitions that only proofs and contracts inside the crates use: no contract of a public call of `kdl` mentions them.

-- The places and spans that a reader of faults keeps are in the text that it reads.
pub mod Noted
-- Where the reader of faults begins, and what is missing where a text ends.
pub mod Outsets
-- What the readers of lexemes and value ends advance past, and what that costs.
pub mod Reading
