-- The documents of a server.
pub mod States
-- What a client tells about its documents, and the texts that it has.
pub mod Notes
-- What becomes of the documents of a server after a notification.
pub mod Outcomes
