-- Entries before another rest, and the ends of their pieces.

-- Spaces, comments and entries come before another rest too.
pub mod EntryMoves
-- Tokens come before another rest too.
pub mod TokenMoves
-- What follows a piece of an entry is an end of the text.
pub mod EntryEnds
