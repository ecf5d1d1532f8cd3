-- Quoted strings in either form (KDL 2.0.0, Quoted String and Multi-line String).
-- `X t r us`: an X begins the text t, leaves r, and has the units us.
use Rattle.std.specs.Prelude.{◌≡◌, false, List, [], ◌∷◌, ◌++◌}
use Rattle.kdl_text.specs.Chars.{Text, Newline, begins_two, begins_with}
use Rattle.kdl_text.specs.Strings.{StringUnit, literal, escape, spaces, IsUnit, QuotedString}
use Rattle.kdl_text.specs.Dedent.{Dedents, LineUnit, Literal, Escape, LineEnd}

-- a unit in a line, without whitespace escapes
abbrev pub kept : StringUnit → List LineUnit
kept (literal c) = Literal c ∷ []
kept (escape c) = Escape c ∷ []
kept spaces = []

-- one unit, a newline, or a quote at which no three begin, and what is kept of it
pub data ContentUnit : Text → Text → List LineUnit → Type 0 where
  quote : {r : Text} → begins_two 34 34 r ≡ false → ContentUnit (34 ∷ r) r (Literal 34 ∷ [])
  line : {t r : Text} → Newline t r → ContentUnit t r (LineEnd ∷ [])
  unit : {t r : Text} {u : StringUnit} {us : List LineUnit} → IsUnit t r u → us ≡ kept u → ContentUnit t r us

-- such units up to three quotes
pub data Content : Text → Text → List LineUnit → Type 0 where
  close : {r : Text} → Content (34 ∷ 34 ∷ 34 ∷ r) r []
  more : {t m r : Text} {us vs ws : List LineUnit} → ContentUnit t m us → Content m r vs → ws ≡ us ++ vs → Content t r ws

-- a newline, and lines up to three quotes
pub data MultiLineBody : Text → Text → Text → Type 0 where
  lines : {t m r v : Text} {us : List LineUnit} → Newline t m → Content m r us → Dedents us v → MultiLineBody t r v

-- three quotes, and after them such a body
pub data MultiLineString : Text → Text → Text → Type 0 where
  multi_line : {t r v : Text} → MultiLineBody t r v → MultiLineString (34 ∷ 34 ∷ 34 ∷ t) r v

-- a single-line string, which three quotes do not begin, or a multi-line string
pub data IsQuoted : Text → Text → Text → Type 0 where
  on_one_line : {t r v : Text} → begins_with (34 ∷ 34 ∷ 34 ∷ []) t ≡ false → QuotedString t r v → IsQuoted t r v
  on_many_lines : {t r v : Text} → MultiLineString t r v → IsQuoted t r v
