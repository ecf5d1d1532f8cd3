-- Documents laid in a text: derived, printed, laid again.

-- A text in which a tree is laid is derived, with the tree's data.
pub mod LaidIsDerived
-- What is laid in a text prints it.
pub mod LaidPrints
-- A document with the forms that its entries print has its data.
pub mod FormedPrints
-- A document is laid again in the text that it prints.
pub mod Relaid
