-- What the text of a query selects, and the faults of a text that is not a query.
pub mod Queries
