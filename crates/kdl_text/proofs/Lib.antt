-- The cursor: looks, runs of characters, slices, and what they cost.
pub mod Looking
-- Newlines, spaces, comments and esclines.
pub mod Spacing
-- Bare strings and quoted strings of one line.
pub mod Quoted
-- Multi-line strings and their dedent.
pub mod ManyLines
-- Raw strings of one line and of many.
pub mod RawStrings
-- Numbers, decimals and keywords.
pub mod Numeric
