-- What a handle and the parts of a box own.
pub mod AsBox
-- Trees with one node changed.
pub mod TreeSteps
-- Documents taken apart along a path: what is put into a block shows in the tree of the whole.
pub mod OpenSteps
-- Lines and columns of a text that grows by a character.
pub mod PositionSteps
-- Texts in the strings that were written, once more are written.
pub mod SaysSteps
-- Strings put into a buffer one after another, as far as there is room.
pub mod Fitting
-- Texts that are values, and the entries that are laid in them.
pub mod ValueSteps
-- One step down a path.
pub mod PathSteps
-- Edits: from what the changes make to what the calls say.
pub mod EditSteps
-- One row more, after rows whose texts are in the strings.
pub mod RowSteps
-- Rows that say items, once a row more is written.
pub mod FlatSteps
-- The items of a document that are still to be written, while its nodes are walked over a stack.
pub mod FlatTree
-- One report more, after reports whose words are in the strings.
pub mod ReportSteps
-- Entries that are values alone, and whole texts.
pub mod ReadingSteps
-- What the rows say, read with the strings that were written.
pub mod ListedReads
-- One fault more, after those that are listed.
pub mod ListedSteps
