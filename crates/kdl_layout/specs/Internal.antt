-- Definitions that only proofs and contracts inside the crates use: no contract of a public call of `kdl` mentions them.

-- How the results of the readers of gaps and places relate to the text: the items, and what the text lacks at its end.
pub mod Lacking
-- How the results of the readers of what a slashdash drops relate to the text after the `/-`.
pub mod Passed
-- What the control does after a slashdash, up to the end of what the slashdash drops.
pub mod Passing
-- How the results of the readers of items relate to the text.
pub mod Reading
-- The texts in memory that layout keeps with spellings.
pub mod KeptTexts
-- What the functions do that lay out texts, by the layout in memory.
pub mod Laying
-- The spellings of names that are kept, and those that are not.
pub mod Names
-- The string, number or keyword that a whole text is.
pub mod Whole
