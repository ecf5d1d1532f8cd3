-- A text as the end of another, as an equation, which has one proof at most.
use Rattle.std.specs.Prelude.{◌≡◌, ◌-◌, length, drop}
use Rattle.kdl_text.specs.Chars.{Text}

-- s is an end of t
abbrev pub IsEndOf : Text → Text → Type 0
IsEndOf t s = drop (length t - length s) t ≡ s
