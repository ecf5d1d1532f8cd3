-- Slices of a text: what is between two places, and what it costs.
pub mod Slicing
-- Entries before another rest, and the ends of their pieces.
pub mod Moving
-- Entries and identifiers laid in a text: derived, printed, one at most.
pub mod Laying
-- Entry and identifier texts, read token by token.
pub mod Reading
-- What `==` of identifiers and entries means, on trees.
pub mod Equality
-- The strings of identifiers in memory are of Unicode scalar values.
pub mod WellFormed
-- The lemmas that the functions of a file cite.
pub mod Rules
