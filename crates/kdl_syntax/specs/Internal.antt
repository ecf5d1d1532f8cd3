-- Definitions that only proofs and contracts inside the crates use: no contract of a public call of `kdl` mentions them.

-- What the lexer returns.
pub mod Handed
-- The order of two places, as an equation.
pub mod Order
-- What the fields of the controls represent.
pub mod Views
