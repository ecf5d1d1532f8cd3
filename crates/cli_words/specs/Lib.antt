-- The completions of shells and the manual page, by templates.
pub mod Template
-- The words of the program and their flags.
pub mod Words
