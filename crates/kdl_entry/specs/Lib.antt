-- What an entry says, whatever its form.
pub mod Data
-- Strings, types, values and entries as they are written (KDL 2.0.0, String, Value, Type Annotation, Argument, Property).
pub mod Entries
-- The fields of an identifier or an entry in memory, and an entry with one field changed.
pub mod Fields
-- Entries without format and spelling, and the form in which they are in a node.
pub mod Formless
-- Identifiers and entries located in a text: their spellings and places, in the order of printing, are the text, and each is what it has to be.
pub mod Laid
-- What is proved of the written grammar of identifiers and entries.
pub mod Laws
-- Places: the texts between the parts of an item, and what may be in them.
pub mod Places
-- What identifiers and entries print.
pub mod Print
-- Identifiers and entries with every text and span, whatever their layout in memory.
pub mod Tree
-- Definitions that only proofs and contracts inside the crates use.
pub mod Internal
