-- The texts of floats.

-- Whether a text is that of a float is decided.
pub mod TextDecided
-- A decimal without its `_` is a float's text.
pub mod DecimalTexts
