-- The data of a document, whatever its form.
pub mod Data
-- Documents whose nodes differ only in entries or spellings.
pub mod Edited
-- The former language, in which node-spaces or a `}` come before each slashdash in a node.
pub mod Former
-- The written grammar of documents and nodes (KDL 2.0.0, Document, Node, Slashdash Comments). `X wide s r x`: an X begins the text s, leaves r, and represents x.
pub mod Grammar
-- Nodes and documents located in a text: their places and items, in the order of printing, are the text, and each place is what it has to be.
pub mod Laid
-- What is proved of the written grammar of documents and nodes.
pub mod Laws
-- How far the control reads in a text.
pub mod Going
-- The control of a node text: that of a document, but after the node only line-spaces may come.
pub mod NodeControl
-- Which texts begin a document, and what is proved of that.
pub mod GoingOn
-- What may be in the places of a node.
pub mod Places
-- What nodes and documents print.
pub mod Print
-- Nodes and documents with every text and span, whatever their layout in memory.
pub mod Tree
-- Definitions that only proofs and contracts inside the crates use.
pub mod Internal
-- Parts of a document that read back wherever they may be.
pub mod ReadsBack
