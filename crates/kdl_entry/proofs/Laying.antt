-- Entries and identifiers laid in a text: derived, printed, one at most.

-- A text in which an entry or an identifier is laid is derived, with its data.
pub mod LaidIsDerived
-- A laid identifier or entry prints its text.
pub mod LaidPrints
-- What is laid is laid, whatever its spans.
pub mod Respanned
-- A laid entry can come before every text with a value end.
pub mod EntryStands
-- An entry with the form that it prints has its data and prints it.
pub mod FormedPrints
-- An entry without format and spelling is laid in what it prints.
pub mod FormlessLaid
-- A printed value is read back, before every text with a value end.
pub mod ValueReadsBack
-- The laws of what is laid, put together.
pub mod TextLaws
-- A text is one identifier at most, and one entry at most.
pub mod TextUnique
