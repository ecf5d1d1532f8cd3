-- What the readers of PATHs return.
pub mod PathReading
-- What the failures of parts of an edit mean.
pub mod Failing
-- Nodes and entries in memory that a PATH names.
pub mod Located
-- A node after a change.
pub mod Changed
-- A document in which a value is set.
pub mod Done
-- A node after spaces, and with an end.
pub mod Laid
-- Every node in memory to which the steps of a PATH lead.
pub mod Every
-- A document after an edit at each of some paths of indices.
pub mod OnEach
-- What is made for a value that is missing.
pub mod Made
-- A document that is open along a path.
pub mod Cursor
