-- What a value says, whatever its form.
pub mod Data
-- The texts of floats.
pub mod Floats
-- The order of values.
pub mod Order
-- What values print.
pub mod Print
-- The printed spelling of a string.
pub mod Spelled
-- Values with every text, whatever their layout in memory.
pub mod Tree
-- Values that memory can hold.
pub mod WellFormed
