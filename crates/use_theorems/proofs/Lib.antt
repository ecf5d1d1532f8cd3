-- Lemmas that several proofs share: the bytes of a text, the data of nodes after an edit and of nodes that were made, the
-- entry that a removal by name removes, what stays where an edit inside returns None, and nodes with another name.
pub mod Bytes
pub mod SaidAfter
pub mod MadeNodes
pub mod Removed
pub mod Stays
pub mod Renamed
