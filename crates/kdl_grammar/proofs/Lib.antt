-- The machine on tokens, and the grammar: each accepts what the other does.
pub mod Reading
-- Documents laid in a text: derived, printed, laid again.
pub mod Laying
-- Pieces before another rest, and the ends of pieces.
pub mod Moving
-- Worked examples of the grammar.
pub mod Examples
-- The laws, put together.
pub mod LawProofs
-- What reads back wherever it may be: derived, composed, found where a tree is laid.
pub mod ReadingBack
-- Which texts begin a document.
pub mod GoingOn
-- Which texts begin a node text.
pub mod NodeTexts
-- The lemmas that the functions of a file cite.
pub mod Rules
