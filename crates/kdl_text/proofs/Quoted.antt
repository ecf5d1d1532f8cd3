-- Bare strings and quoted strings of one line.

-- A text begins with one unit of a quoted string at most.
pub mod UnitUnique
-- The loop over the units of a quoted string.
pub mod BodyLoop
-- What comes after a backslash.
pub mod EscapeReads
-- The loop over the digits of an escape.
pub mod HexLoop
-- The loop over escaped spaces and newlines.
pub mod EscapedSpaceLoop
-- What follows a string is an end of the text.
pub mod StringEnds
-- A text begins with one quoted string at most, and with one raw string.
pub mod StringUnique
-- Bare strings: one at most, and the reader's cases.
pub mod BareReads
-- The keywords that a bare string may not be.
pub mod KeywordBares
