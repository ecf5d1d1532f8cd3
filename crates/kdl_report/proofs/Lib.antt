-- The text before a byte, and its newlines, when a unit is read.
pub mod PlaceSteps
-- A spot, when a unit is read.
pub mod SpotSteps
-- The lines that are shown for a span.
pub mod RowSteps
-- The part of a line that is shown, when a character is read.
pub mod WindowSteps
-- What is shown of a line that is cut.
pub mod WindowLaws
-- What is appended to a string.
pub mod Appended
-- The line of a byte is a line of the text.
pub mod LineLaws
-- What the definitions of reports do not allow.
pub mod Examples
-- One more line in the list of lines of two texts.
pub mod EditSteps
-- One more part of the list that is shown.
pub mod HunkSteps
-- What the definitions of differences do not allow.
pub mod DiffExamples
-- What the readers of hints pass.
pub mod HintSteps
-- Tokens of an object that are written one after another.
pub mod ObjectSteps
-- One more difference in the list of lines of two texts.
pub mod TightSteps
