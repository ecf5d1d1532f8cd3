-- A node or a document with one field changed.
pub mod Change
-- What a node and a document print when their entries or nodes are replaced.
pub mod EditLaw
-- Texts, nodes and documents in which one piece of the printed text is replaced.
pub mod Bytes
-- What parsing promises.
pub mod Parses
-- New nodes and documents, and nodes and documents without their formats, or without their spans.
pub mod Cleared
-- What look-ups in a document return, and the document after a write through the references that they return.
pub mod DocumentLookups
-- The fields of a node or a document in memory.
pub mod Fields
-- What the iterator over the children of a node has left, and the node after a write to its entries.
pub mod Iterators
-- What layout makes of nodes and documents in memory.
pub mod Layout
-- What the calls that lay out promise.
pub mod LaysOut
-- What look-ups in a node return, and the node after a write through the references that they return.
pub mod Lookups
-- Documents, and nodes, in which look-ups find the same.
pub mod Finds
-- What look-ups find in data.
pub mod Said
-- What look-ups find after an edit.
pub mod Found
-- Nodes inserted among others, and the newlines that are added there.
pub mod Nodes
-- Nodes inserted among others with the newlines that are lacking, and no more.
pub mod Exact
-- Which nodes, and which documents, are equal by `==`.
pub mod Same
-- The trees of nodes and documents in memory.
pub mod Tree
-- The terms in which contracts describe documents, re-exported in one place for the crates that call this one. Declares nothing.
pub mod Words
-- Definitions that only proofs and contracts inside the crates use.
pub mod Internal
-- Entries, nodes and documents that read back.
pub mod ReadsBack
