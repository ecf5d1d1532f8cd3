-- How text is shown in a terminal, and how many columns it takes there.
use Rattle.std.specs.Prelude.{◌≡◌, ℕ, Bool, false, ◌||◌, ◌==◌, not, max, is_some, unwrap_or, [], ◌∷◌, ◌++◌, List, chars, encode_utf8_all, flat_map, if◌then◌else◌, OnOk, Result, String, string_bytes}
use Rattle.std.specs.List.{sum_by}
use Rattle.std.specs.declared.alloc.Global.{Global}
use Rattle.kdl_text.specs.Chars.{Text, is_banned, is_newline_char, times}
use Rattle.unicode_width.specs.Width.{char_width}

-- a terminal may act on the character: it is banned in KDL, part of a newline, or has no width of its own, as control characters
abbrev pub is_hidden : ℕ → Bool
is_hidden c = is_banned c || is_newline_char c || not (is_some (char_width false c))

-- the character that is shown for one that is no tab: U+FFFD for a hidden one
abbrev pub visible : ℕ → ℕ
visible c = if is_hidden c then 0xFFFD else c

-- what is shown for a character: four spaces for a tab
abbrev pub shown_char : ℕ → Text
shown_char c = if c == 9 then times 4 32 else visible c ∷ []

-- what is shown for a text
abbrev pub shown : Text → Text
shown = flat_map shown_char

-- the same of bytes
abbrev pub shown_bytes : List ℕ → List ℕ
shown_bytes s = encode_utf8_all (shown (chars s))

-- the columns of a character in a terminal
abbrev pub width : ℕ → ℕ
width c = unwrap_or (char_width false c) 0

-- the columns of a text in a terminal
abbrev pub columns : Text → ℕ
columns = sum_by width

-- the carets below a marked text: one for each column, and at least one
abbrev pub carets : Text → Text
carets t = times (max 1 (columns (shown t))) 94

abbrev pub text_of : String Global → Text
text_of s = chars (string_bytes s)

-- on success the text is appended
abbrev pub Appends : {A E : Type 0} → Result A E → String Global → String Global → Text → Type 0
Appends r old new t = OnOk r (text_of new ≡ text_of old ++ t)
