-- Definitions that only proofs and contracts inside the crates use: no contract of a public call of `kdl` mentions them.

-- What the fields of a type, of a key, and of the parts of an entry represent.
pub mod Building
-- What a call that slices asks of the places, and what it costs.
pub mod Counted
-- The machine that reads a text that is one entry: it reads the tokens once. The token k is in the text s before r, in the text `whole`.
pub mod EntryMachine
-- The machine's state that a reader of an entry holds, and what its steps return.
pub mod EntryReading
-- What the reader of identifier texts returns.
pub mod IdentifierReading
-- The parts of an entry, or of a node's name, that is being read: its type and its key.
pub mod Parts
-- What is proved of the machine that reads entry texts.
pub mod MachineLaws
