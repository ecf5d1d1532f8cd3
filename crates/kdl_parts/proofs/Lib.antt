-- What the proofs of this crate cite most of the standard library, of the crates below, and of the specifications.
pub mod Common
-- What edits of a list of entries leave.
pub mod EntryEdits
-- Look-ups in lists, an element at a time.
pub mod EntryLookups
-- What `==` of formats means, on their trees.
pub mod Equality
-- A loop that changes the elements of a list one by one.
pub mod Loops
-- The text of U+FEFF, and a text after it.
pub mod BomText
-- What the entries of a node print, one by one.
pub mod PrintedEntries
-- The UTF-8 of a text, part by part.
pub mod Utf8Parts
-- The lemmas that the functions of a file cite.
pub mod Rules
