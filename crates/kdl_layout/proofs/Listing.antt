-- The items of a text: one list at most, and the readers that make it.

-- A gap, or a place in a node, has one list of items at most.
pub mod ItemsUnique
-- The items of node-spaces and line-spaces, in a gap and in a place.
pub mod SpaceItems
-- What begins a text, by its first token.
pub mod Starts
-- A text that is cut at a place in bytes.
pub mod Cuts
-- A text has a list of items exactly where it may be in its place.
pub mod PlaceTexts
