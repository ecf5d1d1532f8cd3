-- Notes at their places.
pub mod Notes
