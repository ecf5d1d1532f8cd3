-- The machine on tokens, and the grammar: each accepts what the other does.

-- What the grammar derives, the machine reads, and the tree that it builds is laid.
pub mod Complete
-- What the machine without data accepts, the grammar derives.
pub mod Sound
-- Without data and places the machine is the one that says which tokens may come.
pub mod Erased
-- Where no token begins before the end of the text, the text is no document.
pub mod NoToken
-- From each place that the machine reaches some text goes on to a document.
pub mod Viable
-- After a token that it refuses no document goes on.
pub mod Refusing
-- The steps of the control of a node text.
pub mod NodeSteps
-- What the grammar derives of a node, the control goes over.
pub mod NodeComplete
