-- Slices of a text: what is between two places, and what it costs.

-- The piece between two places.
pub mod Between
-- The piece between a text and an end of it is a place.
pub mod Placing
-- What slices cost.
pub mod SliceCost
