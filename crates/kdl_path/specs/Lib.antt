-- The text of a PATH.
pub mod PathText
-- What a PATH names in the data of a document.
pub mod Paths
-- The data of a document, and its text, after an edit at a PATH.
pub mod Edits
-- What failures mean, and when an edit at a PATH fails.
pub mod Failures
-- The data of a document, and its text, after an edit at each node that a query selects.
pub mod Each
-- Definitions that no contract of a public call mentions.
pub mod Internal
