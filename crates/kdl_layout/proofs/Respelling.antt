-- Spellings that layout keeps.

-- Texts that are a whole string, number or keyword, and what they are before other text.
pub mod Spellings
-- What is kept inside an entry or a type, and before an entry that continues the line.
pub mod Kept
-- What is laid out, with or without spellings.
pub mod Written
-- What a layout that keeps spellings leaves as it was.
pub mod Leaves
-- If neither spellings nor comments inside entries are kept, nothing is put back.
pub mod Off
-- An entry that is laid out with what is kept inside it, from the steps that lay it out.
pub mod Entries
-- A second layout that keeps spellings changes nothing.
pub mod Again
-- What the definitions of kept spellings do not allow.
pub mod Examples
-- A tree that is laid out with its spellings, as one tree of steps.
pub mod Spelled
-- What is kept inside nodes is one thing.
pub mod Unique
