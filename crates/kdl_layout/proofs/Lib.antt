-- What the proofs cite most of the standard library, of the crates below, and of the specifications.
pub mod Common
-- What a slashdash drops.
pub mod Dropping
-- Worked examples of node-spaces.
pub mod Examples
-- What a text around nodes lacks, so that whatever follows it is not part of it.
pub mod Lacking
-- The items of a text: one list at most, and the readers that make it.
pub mod Listing
-- Texts that are node-spaces, whatever follows them.
pub mod NodeSpaces
-- Items that layout wrote are the same items again.
pub mod Rewriting
-- Comments and slashdashed items that layout keeps.
pub mod Keeping
-- What layout makes: one thing, its text, and that it reads back.
pub mod Formatting
-- Blank lines that stay between nodes and comments.
pub mod Spacing
-- Blocks that stay on one line.
pub mod OneLine
-- A loop that changes the elements of a list one by one.
pub mod Loops
-- Texts of one or four characters, and the formats of lines.
pub mod Texts
-- The data of an entry in memory are well formed.
pub mod Entries
-- Spellings that layout keeps.
pub mod Respelling
