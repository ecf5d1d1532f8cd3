-- Spans: places in a text, in bytes.
use Rattle.std.specs.Prelude.{◌≡◌, ℕ, ◌+◌, ◌-◌, ◌^◌, min, [], ◌∷◌, ◌++◌}
use Rattle.std.specs.Char.{len_utf8}
use Rattle.kdl_text.specs.Chars.{Text}
use Rattle.kdl_text.specs.declared.span.SourceSpan.{SourceSpan}

-- the bytes of a text in UTF-8
abbrev pub bytes : Text → ℕ
bytes [] = 0
bytes (c ∷ s) = len_utf8 c + bytes s

-- a count raised by a number of steps, up to the greatest number of 64 bits
abbrev pub raise : ℕ → ℕ → ℕ
raise count by = min (count + by) (2 ^ 64 - 1)

-- the span, in the whole text, of what is in t before r
abbrev pub span_between : Text → Text → Text → SourceSpan
span_between whole t r = record { offset = bytes whole - bytes t; len = bytes t - bytes r }

-- the span selects a piece of the text, so both its ends are on character boundaries
abbrev pub InText : Text → SourceSpan → Type 0
InText whole span = (before piece after : Text) × (whole ≡ before ++ piece ++ after) × (span.offset ≡ bytes before) × (span.len ≡ bytes piece)
