-- Dedent (KDL 2.0.0, Multi-line Strings): the value of lines, the last of which is only spaces.
use Rattle.std.specs.Prelude.{◌≡◌, ℕ, Bool, true, false, List, [], ◌∷◌, ◌++◌}
use Rattle.std.specs.List.{list_all}
use Rattle.kdl_text.specs.Chars.{Text, is_space}

-- a unit of a multi-line string, without whitespace escapes: a literal character, the character of an escape, or a newline
pub data LineUnit : Type 0 where
  Literal : ℕ → LineUnit
  Escape : ℕ → LineUnit
  LineEnd : LineUnit

-- a literal space; an escape is not one, whichever character it denotes
abbrev pub is_space_unit : LineUnit → Bool
is_space_unit (Literal c) = is_space c
is_space_unit (Escape c) = false
is_space_unit LineEnd = false

-- a newline
abbrev pub is_line_end : LineUnit → Bool
is_line_end (Literal c) = false
is_line_end (Escape c) = false
is_line_end LineEnd = true

-- only literal spaces
abbrev pub is_blank_line : List LineUnit → Bool
is_blank_line line = list_all is_space_unit line

-- the text of a unit of a line
abbrev pub unit_text : LineUnit → Text
unit_text (Literal c) = c ∷ []
unit_text (Escape c) = c ∷ []
unit_text LineEnd = []

-- the text of units of a line
abbrev pub line_text : List LineUnit → Text
line_text [] = []
line_text (u ∷ us) = unit_text u ++ line_text us

-- the first line with a unit more at its front
abbrev pub onto_first : LineUnit → List (List LineUnit) → List (List LineUnit)
onto_first u [] = (u ∷ []) ∷ []
onto_first u (line ∷ lines) = (u ∷ line) ∷ lines

-- the lines with a unit more at their front
abbrev pub onto_lines : LineUnit → List (List LineUnit) → List (List LineUnit)
onto_lines (Literal c) lines = onto_first (Literal c) lines
onto_lines (Escape c) lines = onto_first (Escape c) lines
onto_lines LineEnd lines = [] ∷ lines

-- the lines, cut at the line ends
abbrev pub lines_of : List LineUnit → List (List LineUnit)
lines_of [] = [] ∷ []
lines_of (u ∷ us) = onto_lines u (lines_of us)

-- the value of a blank line is empty; any other line begins with the prefix, and its value is what follows it
pub data LineValue (prefix line : List LineUnit) (v : Text) : Type 0 where
  blank : is_blank_line line ≡ true → v ≡ [] → LineValue prefix line v
  dedented : (m : List LineUnit) → is_blank_line line ≡ false → line ≡ prefix ++ m → v ≡ line_text m → LineValue prefix line v

-- each line with its value
pub data LineValues (prefix : List LineUnit) : List (List LineUnit) → List Text → Type 0 where
  none : LineValues prefix [] []
  more : {line : List LineUnit} {lines : List (List LineUnit)} {v : Text} {vs : List Text} → LineValue prefix line v → LineValues prefix lines vs → LineValues prefix (line ∷ lines) (v ∷ vs)

-- joined by line feeds
abbrev pub joined : List Text → Text
joined [] = []
joined (v ∷ []) = v
joined (v ∷ w ∷ vs) = v ++ (10 ∷ joined (w ∷ vs))

-- the last line is blank, and is the prefix; v is the value of the lines before it
pub record Dedents (us : List LineUnit) (v : Text) : Type 0 where
  pub lines : List (List LineUnit)
  pub prefix : List LineUnit
  pub text : lines_of us ≡ lines ++ (prefix ∷ [])
  pub is_blank : is_blank_line prefix ≡ true
  pub each : List Text
  pub values : LineValues prefix lines each
  pub value : v ≡ joined each
