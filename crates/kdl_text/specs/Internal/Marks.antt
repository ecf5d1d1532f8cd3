-- The bytes at which a search in a comment or a line stops, and the characters that it passes.
use Rattle.std.specs.Prelude.{ℕ, Bool, not, ◌||◌, ◌==◌}
use Rattle.kdl_text.specs.Chars.{within, is_newline_char, is_comment_char}
use Rattle.kdl_text.specs.declared.marks.Marks.{Marks}
use Rattle.kdl_text.specs.declared.marks.Marks.TheVariants.{Comment, Newline}

-- `*` or `/`
abbrev pub is_comment_mark : ℕ → Bool
is_comment_mark b = b == 42 || b == 47

-- LF, VT, FF, CR, or the first byte of U+0085, U+2028 or U+2029
abbrev pub is_newline_mark : ℕ → Bool
is_newline_mark b = (within 10 13 b || b == 0xC2) || b == 0xE2

-- whether the search stops at the byte
abbrev pub is_mark : Marks → ℕ → Bool
is_mark Comment b = is_comment_mark b
is_mark Newline b = is_newline_mark b

-- whether the character is none that a search for these marks looks for
abbrev pub is_passed : Marks → ℕ → Bool
is_passed Comment c = is_comment_char c
is_passed Newline c = not (is_newline_char c)
