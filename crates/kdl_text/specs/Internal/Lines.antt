-- Lines of multi-line strings, as they are read.
use Rattle.std.specs.Prelude.{◌≡◌, ℕ, zero, suc, ◌+◌, ◌≤◌, Bool, true, false, not, List, [], ◌∷◌, ◌++◌, length, Result, string_bytes, String, IfOk, IfErr, MatchResult, Option, Some, None}
use Rattle.std.specs.Global.{Global}
use Rattle.std.specs.Cow.{cow_str_bytes}
use Rattle.std.specs.List.{list_all, sum_by}
use Rattle.std.specs.Str.{chars}
use Rattle.kdl_text.specs.Chars.{Text}
use Rattle.kdl_text.specs.Dedent.{LineUnit, Escape, LineEnd, Dedents, is_line_end, line_text}
use Rattle.kdl_text.specs.Spans.{bytes}
use Rattle.kdl_text.specs.Internal.Here.{Here}
use Rattle.kdl_text.specs.Raw.{literals, closing, RawContent, MultiLineRawBody}
use Rattle.kdl_text.specs.Internal.Reading.{Costs, Goes, Past}
use Rattle.kdl_text.specs.MultiLine.{Content, MultiLineBody}
use Rattle.kdl_text.specs.declared.strings.StringFailure.{StringFailure}
use Rattle.kdl_text.specs.declared.strings.StringFailure.TheVariants.{Memory}
use Rattle.kdl_text.specs.declared.strings.dedent.Line.{Line}

-- no units, or one of an escape first
abbrev pub begins_escape : List LineUnit → Bool
begins_escape [] = true
begins_escape (Escape c ∷ us) = true
begins_escape _ = false

-- the text of the units in UTF-8, of which `literal` bytes come before the first escape
pub record Spells (text : List ℕ) (literal : ℕ) (us : List LineUnit) : Type 0 where
  pub front : Text
  pub others : List LineUnit
  pub units : us ≡ literals front ++ others
  pub escape : begins_escape others ≡ true
  pub is : chars text ≡ front ++ line_text others
  pub len : literal ≡ bytes front

-- the line has these units
abbrev pub IsLine : Line → List LineUnit → Type 0
IsLine line us = Spells (cow_str_bytes line.text) line.literal us

-- the lines have these units
pub data AreLines : List Line → List (List LineUnit) → Type 0 where
  no_lines : AreLines [] []
  a_line : {l : Line} {ls : List Line} {us : List LineUnit} {uss : List (List LineUnit)} → IsLine l us → AreLines ls uss → AreLines (l ∷ ls) (us ∷ uss)

-- the result is the value of the units, if their lines have one
pub record Dedented (us : List LineUnit) (result : Result (String Global) StringFailure) : Type 0 where
  pub found : IfOk result (λ s. Dedents us (chars (string_bytes s)))
  pub only : (v : Text) → Dedents us v → MatchResult result (λ s. v ≡ chars (string_bytes s)) (λ e. e ≡ Memory)

-- room for the value of a line and a line feed
abbrev pub line_room : Line → ℕ
line_room l = length (cow_str_bytes l.text) + 1

-- room for the values of lines
abbrev pub lines_room : List Line → ℕ
lines_room ls = sum_by line_room ls

-- no unit is a newline
abbrev pub is_one_line : List LineUnit → Bool
is_one_line us = list_all (λ u. not (is_line_end u)) us

-- the units us are in one line; an X begins the text s with them, and ends in t, or continues after a newline
abbrev pub ReadsLine : (Text → Text → List LineUnit → Type 0) → Bool → Text → List LineUnit → Text → Type 0
ReadsLine X true s us t = (is_one_line us ≡ true) × X s t us
ReadsLine X false s us t = (is_one_line us ≡ true) × Goes X s (us ++ (LineEnd ∷ [])) t

-- the units of the lines between three quotes, with so many number signs, up to the closing
abbrev pub LinesOf : ℕ → Text → Text → List LineUnit → Type 0
LinesOf zero = Content
LinesOf (suc n) = RawContent (closing 3 (suc n))

-- a newline, such lines, and their value
abbrev pub BodyOf : ℕ → Text → Text → Text → Type 0
BodyOf zero = MultiLineBody
BodyOf (suc n) = MultiLineRawBody (suc n)

-- the characters of the piece p are literal at the front of s, and what ends it is before t: a line, or the backslash of an escape
abbrev pub ReadsPlain : Option Bool → Text → Text → Text → Type 0
ReadsPlain (Some closed) s p t = ReadsLine Content closed s (literals p) t
ReadsPlain None s p t = Goes Content s (literals p) (92 ∷ t)

-- the cursor advanced by at least a character, at no more than 4 steps for each byte
pub record Paid (old new : Here) : Type 0 where
  pub shorter : bytes new.rest + 1 ≤ bytes old.rest
  pub costs : Costs 4 0 old new

-- the literal characters p of a line were read, and what ends them
pub record ReadPart (end : Option Bool) (p : Text) (old new : Here) : Type 0 where
  pub reads : ReadsPlain end old.rest p new.rest
  pub paid : Paid old new

-- a line of an X was read with what ends it, which may be the end of the X
pub record ReadLine (X : Text → Text → List LineUnit → Type 0) (line : Line) (closed : Bool) (old new : Here) : Type 0 where
  pub units : List LineUnit
  pub is : IsLine line units
  pub reads : ReadsLine X closed old.rest units new.rest
  pub paid : Paid old new

-- such a line was read, or no X begins here, or an allocation failed
pub record ReadsOne (X : Text → Text → List LineUnit → Type 0) (result : Result (Line × Bool) StringFailure) (old new : Here) : Type 0 where
  pub found : IfOk result (λ (line, closed). ReadLine X line closed old new)
  pub only : (r : Text) (us : List LineUnit) → X old.rest r us → IfErr result (λ e. e ≡ Memory)
  pub past : Past 4 1 old new
