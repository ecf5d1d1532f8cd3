-- Items that layout wrote are the same items again.

-- What comes before a newline comes before LF too.
pub mod BeforeNewlines
-- No string, number, entry or block ends with CR.
pub mod LastCharacters
-- Items that are written in a place are items of such a place again.
pub mod PlacesAgain
-- Items that are written on lines are items of a gap again.
pub mod LinesAgain
-- Texts that are written one after another.
pub mod Pushing
