-- What a step of the builder does, by the machine's.
pub mod Stepping
-- What is returned on a whole text.
pub mod Answering
-- The lemmas that the functions of a file cite.
pub mod Rules
