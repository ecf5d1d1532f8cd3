-- Lines and columns.
use Rattle.std.specs.Prelude.{◌≡◌, ◌+◌, ◌++◌, ◌==◌, ◌&&◌, if◌then◌else◌, not, ℕ, Bool, [], ◌∷◌}
use Rattle.kdl.specs.Words.{Text, bytes}
use Rattle.kdl_text.specs.Chars.{begins, is_newline_char}

-- a newline ends with the character c, if the text r follows it: CR LF is one newline
abbrev pub ends_newline : ℕ → Text → Bool
ends_newline c r = is_newline_char c && not (c == 13 && begins 10 r)

-- the line after the text s, which begins in line n and is followed by r: each newline begins another line
abbrev pub line_after : ℕ → Text → Text → ℕ
line_after n [] r = n
line_after n (c ∷ s) r = line_after (if ends_newline c (s ++ r) then n + 1 else n) s r

-- the column after the text s, which begins in column n and is followed by r: after each newline the column is 1
abbrev pub column_after : ℕ → Text → Text → ℕ
column_after n [] r = n
column_after n (c ∷ s) r = column_after (if ends_newline c (s ++ r) then 1 else n + 1) s r

-- the line and the column, both counted from 1, of an offset in bytes between characters of the text, or at its end
pub record IsPosition (text : Text) (offset line column : ℕ) : Type 0 where
  pub before : Text
  pub after : Text
  pub whole : text ≡ before ++ after
  pub there : offset ≡ bytes before
  pub in_line : line ≡ line_after 1 before after
  pub in_column : column ≡ column_after 1 before after

-- the offset is not between characters of the text, nor at its end
abbrev pub IsNoPosition : Text → ℕ → Type 0
IsNoPosition text offset = (before after : Text) → text ≡ before ++ after → offset ≡ bytes before → ⊥
