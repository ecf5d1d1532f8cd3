-- The terms of the laws that `Words` of kdl does not re-export, in one place for the crates that cite laws. Declares nothing.
pub mod ClientWords
-- Errors with every text as its bytes, and every span, whatever their layout in memory.
pub mod Errors
-- The hashes of two things that are equal.
pub mod Hashes
-- What keys look for, regardless of the spans of their names.
pub mod Keys
-- The pieces of a text.
pub mod Pieces
-- What the text before the nodes of a document may be.
pub mod Leading
-- Documents to whose list of nodes a node can be pushed.
pub mod Pushed
-- The data of a document with another value for an argument, and texts with another piece.
pub mod ArgumentSet
-- What layout makes of a text.
pub mod LaidOut
-- Whether the entries of a document read back in the form that they keep.
pub mod KeptForm
