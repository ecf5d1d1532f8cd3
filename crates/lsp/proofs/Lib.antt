-- Small texts as JSON.
pub mod Texts
-- Messages of the server.
pub mod Replying
-- Messages that are sent.
pub mod Sending
-- The lemmas that functions cite.
pub mod Rules
-- The bytes with which messages of the server begin.
pub mod Fronts
-- What is left of a text that is read.
pub mod Scanning
-- Nodes in their blocks.
pub mod Trees
-- Steps of a session.
pub mod Steps
-- Writers that write more.
pub mod Growing
-- Faults that are written.
pub mod Publishing
-- Edits that are written.
pub mod Edits
-- Replies to requests in a session.
pub mod Answering
-- Replies to requests to format that are refused.
pub mod Refused
-- Where writers of JSON are.
pub mod Nesting
-- Requests that are read token by token.
pub mod Asking
