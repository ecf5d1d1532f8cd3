-- Definitions that only proofs and contracts inside the crates use.
pub mod Internal
