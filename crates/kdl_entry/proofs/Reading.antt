-- Entry and identifier texts, read token by token.

-- What the grammar derives as an entry text, the machine reads.
pub mod EntryComplete
-- What the machine of entries reads, the grammar derives.
pub mod EntrySound
-- The loop that reads an entry text, token by token.
pub mod EntryLoop
-- What the result of the machine of entries says of the grammar.
pub mod EntryAnswers
-- The laws of the machine of entries, put together.
pub mod EntryLaws
-- What the first token of a text says of it as an identifier.
pub mod IdentifierToken
-- What an identifier laid in a text says of the grammar.
pub mod IdentifierAnswers
-- What the control of entry texts accepts, the grammar derives.
pub mod EntryErased
-- An accepted entry text is derived, and so is an accepted identifier text.
pub mod Accepted
