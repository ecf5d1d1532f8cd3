-- Strings, numbers and keywords before another rest, and their ends.

-- A piece as a function of what follows it.
pub mod Puts
-- Numbers and keywords come before another rest too.
pub mod PieceMoves
-- Strings come before another rest too.
pub mod StringMoves
-- What follows a number or a keyword is an end of the text.
pub mod LeafEnds
-- Spaces, comments and breaks come before each rest that begins with no LF.
pub mod FarMoves
