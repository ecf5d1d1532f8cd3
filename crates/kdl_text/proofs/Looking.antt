-- The cursor: looks, runs of characters, slices, and what they cost.

-- The tables of ASCII characters of a class, and runs of them.
pub mod ClassTables
-- Vectors of 16 bytes, and the bytes that they find in a table.
pub mod Vectors
-- The marks that a search of vectors finds.
pub mod MarkMasks
-- What a search for marks passes.
pub mod Marks
-- Runs of characters of a class.
pub mod Runs
-- What runs and slices cost.
pub mod SliceCost
-- Moves and costs, one after another.
pub mod MovesJoin
-- Parts of a text.
pub mod Parts
-- How a reader of a value goes on.
pub mod ValueGoes
-- What a reader costs, whether or not it finds a fault.
pub mod MostCost
-- Texts that begin with an ASCII character.
pub mod FirstByte
-- Texts in bytes and characters.
pub mod Texts
-- Pieces in a row.
pub mod Stars
-- What follows a piece is an end of the text.
pub mod Ends
-- A cursor that goes into a segment and comes back.
pub mod Returns
