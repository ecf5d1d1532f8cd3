-- What a token, the end of the text and a U+FEFF do to a text that is accepted.
pub mod Accepting
-- How many blocks are open after a token, and what is missing where a text may not end.
pub mod OpenCount
-- Spans between places of a text, and what a reader of faults notes.
pub mod NotedSpans
-- Places that a cursor went past, and what its steps cost.
pub mod Passing
-- Where lexemes are.
pub mod LexemeMoves
-- The loop over the units of a string.
pub mod StringLoops
-- The diagnostics of a text, one for each fault.
pub mod Diagnostics
-- Where a front ends, and where the reader of faults begins.
pub mod FrontEnds
-- The turns of the loop over the tokens of a front.
pub mod FrontReads
-- What a reader of faults costs, and where its cursor goes.
pub mod ReaderCost
