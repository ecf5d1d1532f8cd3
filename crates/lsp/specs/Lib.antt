-- Messages of a client, and names of the protocol.
pub mod Messages
-- Messages of the server.
pub mod Replies
-- What a server does with a message, and with the documents that are due.
pub mod Turns
-- The faults of a document, as the protocol has them.
pub mod Faults
-- What formatting makes of a text.
pub mod Formatting
-- What a server returns for a request in a session.
pub mod Contents
-- Definitions that only contracts inside the crate use.
pub mod Internal
