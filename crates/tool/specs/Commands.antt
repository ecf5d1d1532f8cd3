-- The tool's commands, and what they write.
use Rattle.std.specs.Prelude.{◌≡◌, ℕ, List, [], ◌∷◌, Option, Some, option_map, codes, chars, encode_utf8_all}
use Rattle.kdl_value.specs.Data.{Value}
use Rattle.kdl_value.specs.Print.{print_value}
use Rattle.kdl_grammar.specs.Data.{Nodes}
use Rattle.kdl_grammar.specs.Grammar.{IsDocument}
use Rattle.kdl_grammar.specs.Laid.{LaidDocument}
use Rattle.kdl_grammar.specs.Print.{print_document}
use Rattle.kdl_grammar.specs.Tree.{Document}
use Rattle.kdl_layout.specs.Canonical.{canonical_text}
use Rattle.kdl_layout.specs.Config.{defaults}
use Rattle.kdl_layout.specs.WithComments.{IsFormattedDocument}
use Rattle.kdl.specs.Said.{said_arg}
use Rattle.tool.specs.Reports.{line}
use Rattle.tool.specs.declared.Command.{Command}
use Rattle.tool.specs.declared.Command.TheVariants.{Cat, Fmt, Strip, Get}

-- a command: write the text itself, the text laid out, its canonical text, or the value at a name, given by its bytes
pub data Asked : Type 0 where
  cat : Asked
  fmt : Asked
  strip : Asked
  get : List ℕ → Asked

-- the arguments of a command
abbrev pub words_of : Asked → List (List ℕ)
words_of cat = codes "cat" ∷ []
words_of fmt = codes "fmt" ∷ []
words_of strip = codes "strip" ∷ []
words_of (get name) = codes "get" ∷ name ∷ []

-- the arguments are not a command
abbrev pub AreOther : List (List ℕ) → Type 0
AreOther words = (a : Asked) → words ≡ words_of a → ⊥

-- the command in memory
abbrev pub asked_by : Command → Asked
asked_by Cat = cat
asked_by Fmt = fmt
asked_by Strip = strip
asked_by (Get name) = get name.now

-- the printed value, on a line
abbrev pub value_line : Option Value → Option (List ℕ)
value_line = option_map (λ v. line (encode_utf8_all (print_value v)))

-- what the document of a text with the data x prints after layout: a text with the data x too
pub record IsLaidOut (text : List ℕ) (x : Nodes) (out : List ℕ) : Type 0 where
  pub before : Document
  pub after : Document
  pub laid : LaidDocument before (chars text)
  pub formatted : IsFormattedDocument defaults 0 before after
  pub prints : out ≡ encode_utf8_all (print_document after 0)
  pub says : IsDocument (print_document after 0) x

-- what is written for a text with the data x; None if there is no such value
abbrev pub IsWritten : Asked → List ℕ → Nodes → Option (List ℕ) → Type 0
IsWritten cat text x o = o ≡ Some text
IsWritten fmt text x o = (out : List ℕ) × IsLaidOut text x out × (o ≡ Some out)
IsWritten strip text x o = o ≡ Some (encode_utf8_all (canonical_text x))
IsWritten (get name) text x o = o ≡ value_line (said_arg (chars name) x)
