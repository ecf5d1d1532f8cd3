-- Which token may come where in a text, and which texts are accepted.
pub mod TextControl
-- Definitions that only proofs and contracts inside the crates use.
pub mod Internal
