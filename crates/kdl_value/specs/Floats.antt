-- The texts of floats.
use Rattle.kdl_text.specs.Chars.{Text}
use Rattle.kdl_text.specs.Numbers.{Decimal, FloatText}

-- the text that a decimal represents is a float's
abbrev pub DecimalsAreFloats : Type 0
DecimalsAreFloats = (t r w : Text) → Decimal t r w → FloatText w
