-- Texts and classes of characters (KDL 2.0.0: Unicode scalar values, spaces, newlines, disallowed code points).
-- A relation `X t r` says: an X begins the text t and leaves r. So `X (p ++ r) r` says that p is an X before the rest r.
use Rattle.std.specs.Prelude.{◌≡◌, ℕ, zero, suc, Bool, true, false, not, ◌&&◌, ◌||◌, ◌==◌, nat_le, nat_lt, List, [], ◌∷◌}

-- a text is its characters, Unicode scalar values
abbrev pub Text : Type 0
Text = List ℕ

abbrev pub within : ℕ → ℕ → ℕ → Bool
within low high c = nat_le low c && nat_le c high

-- a Unicode scalar value
abbrev pub is_scalar : ℕ → Bool
is_scalar c = nat_lt c 0xD800 || within 0xE000 0x10_FFFF c

-- the 18 spaces
unfoldable pub is_space : ℕ → Bool
is_space c =
    (((((((c == 9 || c == 32) || c == 0xA0) || c == 0x1680) || within 0x2000 0x200A c) || c == 0x202F) || c == 0x205F) || c == 0x3000)

-- the characters of which the eight newlines are made
unfoldable pub is_newline_char : ℕ → Bool
is_newline_char c = ((within 10 13 c || c == 0x85) || c == 0x2028) || c == 0x2029

-- the characters that only comments contain
unfoldable pub is_banned : ℕ → Bool
is_banned c =
    ((((((within 0 8 c || within 14 31 c) || c == 127) || within 0x200E 0x200F c) || within 0x202A 0x202E c) || within 0x2066 0x2069 c) || c == 0xFEFF)

-- `0` to `9`
abbrev pub is_digit : ℕ → Bool
is_digit c = within 48 57 c

-- `+` and `-`
abbrev pub is_sign : ℕ → Bool
is_sign c = c == 43 || c == 45

-- `\ / ( ) { } [ ] ; " # =`, which end a bare string
unfoldable pub is_punctuation : ℕ → Bool
is_punctuation c =
    ((((((((((c == 92 || c == 47) || c == 40) || c == 41) || c == 123) || c == 125) || c == 91) || c == 93) || c == 59) || c == 34) || c == 35) || c == 61

-- a character of bare strings, numbers and words
unfoldable pub is_identifier_char : ℕ → Bool
is_identifier_char c = not (((is_space c || is_newline_char c) || is_banned c) || is_punctuation c)

-- a character of a raw string's lines
unfoldable pub is_raw : ℕ → Bool
is_raw c = not (is_newline_char c || is_banned c)

-- a character of a raw string's lines that is not a quote
unfoldable pub is_unquoted : ℕ → Bool
is_unquoted c = not ((c == 34 || is_newline_char c) || is_banned c)

-- a number sign
abbrev pub is_number_sign : ℕ → Bool
is_number_sign c = c == 35

-- a quote
abbrev pub is_quote : ℕ → Bool
is_quote c = c == 34

-- neither `*` nor `/`: no block comment begins or ends at it
abbrev pub is_comment_char : ℕ → Bool
is_comment_char c = not (c == 42 || c == 47)

-- a literal character of a quoted string
unfoldable pub is_literal : ℕ → Bool
is_literal c = not (((c == 92 || c == 34) || is_newline_char c) || is_banned c)

-- the text begins with the character c
abbrev pub begins : ℕ → Text → Bool
begins c [] = false
begins c (d ∷ s) = d == c

-- the text begins with the characters a and b
abbrev pub begins_two : ℕ → ℕ → Text → Bool
begins_two a b [] = false
begins_two a b (c ∷ s) = (c == a) && begins b s

-- the text begins with p
abbrev pub begins_with : Text → Text → Bool
begins_with [] s = true
begins_with (c ∷ p) [] = false
begins_with (c ∷ p) (d ∷ s) = (d == c) && begins_with p s

-- n times the character c
abbrev pub times : ℕ → ℕ → Text
times zero c = []
times (suc n) c = c ∷ times n c

-- the text begins with a character of the class
abbrev pub starts : (ℕ → Bool) → Text → Bool
starts p [] = false
starts p (c ∷ s) = p c

-- one of the eight newlines: CR LF is one, and CR is one if no LF follows
pub data Newline : Text → Text → Type 0 where
  crlf : {r : Text} → Newline (13 ∷ 10 ∷ r) r
  one : {c : ℕ} {r : Text} → is_newline_char c ≡ true → ((c == 13) && begins 10 r) ≡ false → Newline (c ∷ r) r

-- any number of R in a row
pub data Star (R : Text → Text → Type 0) : Text → Text → Type 0 where
  none : {s : Text} → Star R s s
  more : {s t r : Text} → R s t → Star R t r → Star R s r

-- at least one R
pub data Plus (R : Text → Text → Type 0) : Text → Text → Type 0 where
  plus : {s t r : Text} → R s t → Star R t r → Plus R s r

-- one space
pub data Space : Text → Text → Type 0 where
  space : {c : ℕ} {r : Text} → is_space c ≡ true → Space (c ∷ r) r
