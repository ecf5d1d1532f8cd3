-- Settings, and what is wrong with them, given the data of a document.
pub mod Settings
-- Which rule is breached where in a document.
pub mod Breaches
