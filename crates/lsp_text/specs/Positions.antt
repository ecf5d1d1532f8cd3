-- Lines, positions and edits of a text, as the Language Server Protocol 3.17 has them. Lines and units count from 0.
use Rattle.std.specs.Prelude.{◌≡◌, ℕ, zero, suc, ◌+◌, ◌-◌, ◌^◌, ◌≤◌, Bool, false, not, ◌&&◌, ◌||◌, ◌==◌, nat_le, nat_lt, min, max, Option, None, Some, List, [], ◌∷◌, ◌++◌, length, take, drop, string_bytes, if◌then◌else◌}
use Rattle.std.specs.Char.{len_utf8}
use Rattle.std.specs.Char.Escape.{encode_utf16}
use Rattle.std.specs.Str.{chars}
use Rattle.lsp_text.specs.declared.change.Change.{Change}
use Rattle.lsp_text.specs.declared.position.Encoding.{Encoding}
use Rattle.lsp_text.specs.declared.position.Encoding.TheVariants.{Utf8, Utf16, Utf32}
use Rattle.lsp_text.specs.declared.position.Position.{Position}
use Rattle.lsp_text.specs.declared.position.Range.{Range}

-- a text is its characters
abbrev pub Text : Type 0
Text = List ℕ

-- how many units a character takes: bytes, units of 16 bits, characters
abbrev pub units : Encoding → ℕ → ℕ
units Utf8 c = len_utf8 c
units Utf16 c = if nat_lt c 0x1_0000 then 1 else 2
units Utf32 c = 1

-- how many units a text takes
abbrev pub size : Encoding → Text → ℕ
size e [] = 0
size e (c ∷ t) = units e c + size e t

-- the text begins with LF
abbrev pub begins_feed : Text → Bool
begins_feed [] = false
begins_feed (c ∷ t) = c == 10

-- the character c, before the text t, ends a line: LF does, and CR if no LF follows
abbrev pub ends_line : ℕ → Text → Bool
ends_line c t = c == 10 || (c == 13 && not (begins_feed t))

-- the text after its first line and the end of that line
abbrev pub after_line : Text → Text
after_line [] = []
after_line (c ∷ t) = if ends_line c t then t else after_line t

-- the text from the start of line n on; a line after the last one starts at the end of the text
abbrev pub from_line : ℕ → Text → Text
from_line zero t = t
from_line (suc n) t = from_line n (after_line t)

-- the first line, without its end
abbrev pub first_line : Text → Text
first_line [] = []
first_line (c ∷ t) = if c == 10 || c == 13 then [] else c ∷ first_line t

-- line n, without its end
abbrev pub line : ℕ → Text → Text
line n t = first_line (from_line n t)

-- how many characters are before the start of line n
abbrev pub line_start : ℕ → Text → ℕ
line_start n t = length t - length (from_line n t)

-- the characters of a text that are whole within its first n units: all, if it has no more units
abbrev pub front : Encoding → ℕ → Text → Text
front e n [] = []
front e n (c ∷ t) = if nat_le (units e c) n then c ∷ front e (n - units e c) t else []

-- how many characters are before a position: after the end of its line it is that end, and inside a character the start of it
abbrev pub index : Encoding → Position → Text → ℕ
index e p t = line_start p.line t + length (front e p.character (line p.line t))

-- the same in bytes
abbrev pub offset : Encoding → Position → Text → ℕ
offset e p t = size Utf8 (take (index e p t) t)

-- how many characters are before a byte: all before the one that the byte is in
abbrev pub index_of_byte : ℕ → Text → ℕ
index_of_byte n t = length (front Utf8 n t)

-- how many lines end within the first k characters: a CR LF does at its LF
abbrev pub lines_before : ℕ → Text → ℕ
lines_before zero t = 0
lines_before (suc k) [] = 0
lines_before (suc k) (c ∷ t) = if ends_line c t then suc (lines_before k t) else lines_before k t

-- how many units of their line are before character k: between CR and LF, those of the whole line
abbrev pub units_before : Encoding → ℕ → Text → ℕ
units_before e k t = size e (first_line (drop (line_start (lines_before k t) t) (take k t)))

-- the position of character k
abbrev pub position : Encoding → ℕ → Text → Position
position e k t = record { line = lines_before k t; character = units_before e k t }

-- the range from the position of a byte to that of the byte `len` bytes after it
abbrev pub byte_range : Encoding → ℕ → ℕ → Text → Range
byte_range e offset len t = record {
  start = position e (index_of_byte offset t) t;
  end = position e (index_of_byte (min (offset + len) (2 ^ 64 - 1)) t) t;
}

-- the text in which the characters of a range are replaced: a range that ends before its start is empty
abbrev pub edited : Encoding → Range → Text → Text → Text
edited e r new t =
    let i = index e r.start t in
    let j = index e r.end t in
    take i t ++ new ++ drop (max i j) t

-- a change in memory: its range, and its text
abbrev pub change_of : Change → Option Range × Text
change_of c = (c.range, chars (string_bytes c.text))

-- the text after a change: of a range, or of the whole text
abbrev pub changed : Encoding → Option Range × Text → Text → Text
changed e (None, new) t = new
changed e (Some r, new) t = edited e r new t

-- the text after a list of changes, each of the text that those before it leave
abbrev pub all_changed : Encoding → List (Option Range × Text) → Text → Text
all_changed e [] t = t
all_changed e (c ∷ cs) t = all_changed e cs (changed e c t)

-- character k is between a CR and its LF
abbrev pub IsInLineEnd : ℕ → Text → Type 0
IsInLineEnd k t = (before after : Text) × (t ≡ before ++ 13 ∷ 10 ∷ after) × (k ≡ suc (length before))

-- the text has the line of the position, and the position is before a character of that line, or at its end
pub record IsExact (e : Encoding) (p : Position) (t : Text) : Type 0 where
  pub in_text : p.line ≤ lines_before (length t) t
  pub count : ℕ
  pub between : p.character ≡ size e (take count (line p.line t))

-- the position is inside no character
abbrev pub IsBetween : Encoding → Position → Text → Type 0
IsBetween e p t = size e (front e p.character (line p.line t)) ≡ min p.character (size e (line p.line t))

-- a text in units of 16 bits, as an editor has it
abbrev pub utf16 : Text → List ℕ
utf16 [] = []
utf16 (c ∷ t) = encode_utf16 c ++ utf16 t

-- a change whose text is in units of 16 bits
abbrev pub in_units : Option Range × Text → Option Range × List ℕ
in_units c = (c.0, utf16 c.1)

-- the range of a change begins and ends inside no character
abbrev pub IsWhole : Encoding → Option Range × Text → Text → Type 0
IsWhole e (None, new) t = Unit {0}
IsWhole e (Some r, new) t = IsBetween e r.start t × IsBetween e r.end t

-- the same of each change, in the text that those before it leave
abbrev pub AreWhole : Encoding → List (Option Range × Text) → Text → Type 0
AreWhole e [] t = Unit {0}
AreWhole e (c ∷ cs) t = IsWhole e c t × AreWhole e cs (changed e c t)
