-- Texts that are in order in a text.
pub mod InOrder
-- The script and the manual page are on the words of the program.
pub mod Written
