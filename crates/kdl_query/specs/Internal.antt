-- What the code computes, in its own order.
pub mod Holds
pub mod Parts
pub mod Visits
-- What the readers of query texts return.
pub mod QueryReading
pub mod Turns
