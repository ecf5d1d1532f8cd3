-- Lines, columns and the places of a text. The newlines are those of KDL 2.0.0: CR LF is one.
use Rattle.std.specs.Prelude.{◌≡◌, ℕ, suc, ◌-◌, Bool, false, not, ◌&&◌, ◌==◌, nat_le, [], ◌∷◌, ◌++◌, length, drop, if◌then◌else◌}
use Rattle.std.specs.Char.{len_utf8}
use Rattle.std.specs.List.{list_any}
use Rattle.kdl_text.specs.Chars.{Text, begins, is_newline_char}

-- the character c, before the text s, begins a CR LF
abbrev pub is_cr_lf : ℕ → Text → Bool
is_cr_lf c s = (c == 13) && begins 10 s

-- how many newlines a text has: each of their characters ends one, but for a CR before an LF
abbrev pub newlines : Text → ℕ
newlines [] = 0
newlines (c ∷ s) = if is_newline_char c && not (is_cr_lf c s) then suc (newlines s) else newlines s

-- the text after its last newline, all of it if it has none
abbrev pub last_line : Text → Text
last_line [] = []
last_line (c ∷ s) = if list_any is_newline_char (c ∷ s) then last_line s else c ∷ s

-- the text before its first newline, all of it if it has none
abbrev pub first_line : Text → Text
first_line [] = []
first_line (c ∷ s) = if is_newline_char c then [] else c ∷ first_line s

-- the bytes of the first character, and of the LF if it begins a CR LF
abbrev pub first_bytes : ℕ → Text → ℕ
first_bytes c s = if is_cr_lf c s then 2 else len_utf8 c

-- the text before byte n, cut back to the start of a character, and of a CR LF
abbrev pub before : ℕ → Text → Text
before n [] = []
before n (c ∷ s) = if nat_le (first_bytes c s) n then c ∷ before (n - len_utf8 c) s else []

-- the text from byte n on, so from the start of a character, and of a CR LF
abbrev pub from : ℕ → Text → Text
from n [] = []
from n (c ∷ s) = if nat_le (first_bytes c s) n then from (n - len_utf8 c) s else c ∷ s

-- the number of the line that byte n of the text is in, from 1
abbrev pub line_number : ℕ → Text → ℕ
line_number n t = suc (newlines (before n t))

-- the number of the character at byte n within its line, from 1
abbrev pub column : ℕ → Text → ℕ
column n t = suc (length (last_line (before n t)))

-- the line that byte n of the text is in
abbrev pub line_at : ℕ → Text → Text
line_at n t = last_line (before n t) ++ first_line (from n t)

-- the text from byte m up to byte n
abbrev pub between : ℕ → ℕ → Text → Text
between m n t = drop (length (before m t)) (before n t)

-- the piece is line n of the text: it is between the text's ends and its newlines, and has none
pub record IsLine (t piece : Text) (n : ℕ) : Type 0 where
  pub above : Text
  pub below : Text
  pub whole : t ≡ above ++ piece ++ below
  pub single : list_any is_newline_char piece ≡ false
  pub starts : last_line above ≡ []
  pub ends : first_line below ≡ []
  pub number : suc (newlines above) ≡ n
