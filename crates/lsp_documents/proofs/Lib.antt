-- Values as numbers, positions and changes.
pub mod Values
-- Documents of the server that are those of the client.
pub mod Agreeing
-- Documents whose faults are to be published.
pub mod Due
-- The whole number that the text of a number is.
pub mod Numbers
