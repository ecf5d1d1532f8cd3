-- Multi-line strings and their dedent.

-- A text begins with the lines of one multi-line string at most.
pub mod LinesUnique
-- The loop over a line from its first escape on.
pub mod EscapedLineLoop
-- The loop over characters that represent themselves.
pub mod PlainLoop
-- The text and the units of a line.
pub mod LineUnits
-- Lines, one after another.
pub mod LinesJoin
-- What lines represent under a prefix.
pub mod DedentReads
-- Whole strings, from their quotes, lines and dedent.
pub mod StringReads
