-- Lines, columns and the places of a text.
pub mod Places
-- The lines that are shown for a span.
pub mod Rows
-- A place that is reached from left to right, for proofs alone.
pub mod Spots
-- How text is shown in a terminal.
pub mod Shown
-- The part of a line that is shown.
pub mod Windows
-- What a diagnostic says.
pub mod Said
-- The hint on a fault.
pub mod Hints
-- The picture of a fault.
pub mod Picture
-- A fault as a JSON object.
pub mod Object
-- The lines of two texts as one list.
pub mod Edits
-- What is shown of them.
pub mod Hunks
-- Differences in which no line is both removed and added.
pub mod Tight
