-- Raw strings of one line and of many.

-- A text begins with one raw string at most.
pub mod RawUnique
-- Where a closing of a raw string begins, and where none does.
pub mod ClosingPlaces
-- Whole raw strings, from their number signs and quotes.
pub mod RawReads
-- The loop over a raw string of one line.
pub mod LineLoop
-- The loop over the lines of a raw string.
pub mod LinesLoop
