-- What an action makes of a text.
pub mod Applied
