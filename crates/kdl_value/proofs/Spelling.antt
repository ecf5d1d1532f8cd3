-- Printed values, and that they read back.

-- Runs of characters that are printed as they are between quotes.
pub mod PlainRuns
-- Printing a string: its characters, and the bytes that are written.
pub mod SpellingBytes
-- The printed spelling represents the string.
pub mod StringReadsBack
-- A printed whole number is read back.
pub mod NumberReadsBack
-- What is written, as the characters that it encodes.
pub mod PrintedTexts
