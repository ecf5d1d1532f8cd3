-- What the proofs of this crate cite most of the standard library, of the crates below, and of the specifications.
pub mod Common
-- Layout over a stack of blocks.
pub mod LayingOut
-- Clearing formats without recursion.
pub mod Clearing
-- Printing over a stack of blocks.
pub mod Printing
-- Nodes put among others.
pub mod Putting
-- Look-ups in nodes and documents.
pub mod Finding
-- What is left to copy, turn by turn.
pub mod CopyingLoop
-- Counts of nodes, level by level.
pub mod NodeCounts
-- What is printed where entries or nodes are exchanged, and what edits leave.
pub mod EditLaws
-- Where one entry is exchanged, put in or taken out, its piece of the printed text is, and no other character.
pub mod PiecesExchanged
-- Each node and each entry that is laid in a text has a format, and keeps no form.
pub mod LaidFormats
-- What a document, or a node, that was read says of the grammar.
pub mod ParseAnswers
-- The loop over the kinds of the tokens of a document.
pub mod AcceptedLoop
-- A text is accepted by the control of documents exactly if it is derived.
pub mod Checking
-- What edits make of nodes and documents that read back.
pub mod ReadingBack
-- A node, and a document, with another span is equal to what it was.
pub mod SpanIsIgnored
-- The trees of a node and of a document, by their fields.
pub mod Trees
-- The lemmas that the functions of a file cite.
pub mod Rules
