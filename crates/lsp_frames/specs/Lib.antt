-- The head of a frame, and the length that it gives.
pub mod Heads
-- Frames of messages, as bytes.
pub mod Frames
-- Calls on `Frames`, one after the other.
pub mod Calls
