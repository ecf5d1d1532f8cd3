-- The first place of a part.
pub mod Places
-- The lines of a head.
pub mod Lines
-- The number that digits write, and the length that a line gives.
pub mod Numbers
-- What bytes begin with, by cases.
pub mod Fronts
-- Frames where more bytes follow, and frames one after the other.
pub mod Growing
-- What is left where a frame is taken.
pub mod Taken
-- Calls on `Frames` keep the frames of all bytes pushed.
pub mod Runs
-- What `write_frame` writes is read as the message.
pub mod Written
