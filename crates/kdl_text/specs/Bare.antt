-- Bare strings (KDL 2.0.0, Identifier String).
use Rattle.std.specs.Prelude.{◌≡◌, ◌++◌, Bool, true, false, not, ◌&&◌, ◌||◌, if◌then◌else◌, [], ◌∷◌, codes, ◌==◌}
use Rattle.std.specs.List.{list_all}
use Rattle.std.specs.Str.{bytes_eq}
use Rattle.kdl_text.specs.Chars.{Text, is_identifier_char, is_digit, is_sign, starts}

-- the words that a bare string may not be: they would be taken for keywords without their `#`
abbrev pub is_excluded : Text → Bool
is_excluded s = (((bytes_eq s (codes "true") || bytes_eq s (codes "false")) || bytes_eq s (codes "null")) || bytes_eq s (codes "inf")) || bytes_eq s (codes "nan")

-- after a point: nothing, or no digit
abbrev pub after_point : Text → Bool
after_point [] = true
after_point (c ∷ s) = not (is_digit c)

-- after a sign: nothing, a point as above, or no digit
abbrev pub after_sign : Text → Bool
after_sign [] = true
after_sign (c ∷ s) = if c == 46 then after_point s else not (is_digit c)

-- one of the three forms, by its front: with a sign, with a point, or with neither and no excluded word
abbrev pub bare_form : Text → Bool
bare_form [] = false
bare_form (c ∷ s) =
    if is_sign c then after_sign s
    else if c == 46 then after_point s
    else not (is_digit c) && not (is_excluded (c ∷ s))

-- identifier characters, in one of the three forms
unfoldable pub is_bare : Text → Bool
is_bare s = list_all is_identifier_char s && bare_form s

-- a bare string, and no identifier character after it
pub data BareString : Text → Text → Text → Type 0 where
  bare : {s r w : Text} → s ≡ w ++ r → is_bare w ≡ true → starts is_identifier_char r ≡ false → BareString s r w
