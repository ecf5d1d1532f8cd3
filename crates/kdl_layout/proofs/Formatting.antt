-- What layout makes: one thing, its text, and that it reads back.

-- Without comments, what layout makes is what the function gives.
pub mod FormattedUnique
-- What layout makes of a document is one thing.
pub mod SpacedUnique
-- What layout makes prints the canonical text.
pub mod PrintsCanonical
-- What a compact layout makes prints the compact text.
pub mod PrintsCompact
-- The canonical text reads back as what it is made of.
pub mod CanonicalReadsBack
-- The parts of an entry that is laid out read back, and so does the entry where it did before.
pub mod EntriesRead
-- A node or document of which a part is laid out reads back where it did before.
pub mod PartsRead
