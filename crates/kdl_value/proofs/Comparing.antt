-- Equality and order of values.

-- What the order means, on trees.
pub mod OrderOnTrees
-- What `==` of values means, on trees.
pub mod Equality
