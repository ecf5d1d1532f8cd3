-- Definitions that only proofs and contracts inside the crates use: no contract of a public call of `kdl` mentions them.

-- A place in a text that is read from left to right, and what a cursor's calls do to it.
pub mod Here
-- Lines of multi-line strings, as they are read.
pub mod Lines
-- The bytes at which a search in a comment or a line stops.
pub mod Marks
-- How far a reader of numbers has come in the text.
pub mod NumberReading
-- What the result of a reader says of a relation, and what it costs.
pub mod Reading
-- Tables of ASCII characters: bit h of entry l is for the character 16 * h + l.
pub mod Tables
-- What the results of the readers of comments and spaces say of the text.
pub mod TriviaReading
-- Decimal digits at the front of a text.
pub mod DigitRuns
-- What the results of the readers of escapes say of the text.
pub mod StringReading
