-- Messages, one after another.
pub mod Told
