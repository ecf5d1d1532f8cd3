-- What the proofs of this crate cite most of the standard library, of the crates below, and of the specifications.
pub mod Common
-- The lemmas that the functions of a file cite.
pub mod Rules
-- Documents, and nodes, that `==` takes for one print the same, and say the same.
pub mod EqualDocuments
-- What `==` of nodes and documents means, on trees.
pub mod Equality
-- What clones of errors have, on their trees.
pub mod ErrorClones
-- What `==` of errors and of their parts means, on their trees.
pub mod ErrorEquality
-- Two hashers that are written the same bytes.
pub mod Hashing
-- The lists of items, with all that they are of named.
pub mod ItemLists
-- What `==` of keys means, on what they look for.
pub mod KeyEquality
-- Each document and each node has a list of items.
pub mod ListExists
-- Spans in a text cut it between characters.
pub mod PiecesOfText
-- New entries have neither a format nor a spelling.
pub mod NewEntries
-- Items before the nodes of a document, and in a terminator.
pub mod PlaceItems
-- Spans are not printed, and say nothing.
pub mod SpansPrintNothing
-- What two layouts make.
pub mod TwoLayouts
-- What a document prints is one document at most.
pub mod PrintedOnce
-- What a document says once a property of one of its nodes is set.
pub mod SetInData
-- The nodes of a document that reads back have formats.
pub mod NodesHaveFormats
-- The piece of an entry that an insertion replaces is the piece of the property that the document says.
pub mod OldPieces
-- Nodes pushed to the list of a document, where what is before them ends by itself.
pub mod PushedNodes
-- Nodes that end by themselves, since they end in `;` or a newline.
pub mod EndedNodes
-- What a document says, and prints, once an argument has another value.
pub mod ArgumentSet
-- A text that is laid out.
pub mod TextLaidOut
-- Names and arguments in memory, by what they say.
pub mod SaidInMemory
-- Whether the entries of a document read back in the form that they keep.
pub mod KeptForms
