-- Numbers, decimals and keywords.

-- A text begins with one number at most.
pub mod NumberUnique
-- A text begins with one decimal at most, and with no whole number beside it.
pub mod DecimalUnique
-- A text begins with one keyword at most.
pub mod KeywordUnique
-- What the readers of numbers return, a step at a time.
pub mod NumberReads
-- What the readers of decimals return, a step at a time.
pub mod DecimalReads
-- Decimal digits at the front of a text.
pub mod DigitRuns
