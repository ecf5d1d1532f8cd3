-- What the actions that show something of a text print, and the text of data that are JSON.
use Rattle.std.specs.List.{flat_map}
use Rattle.std.specs.Option.{option_to_list}
use Rattle.std.specs.Prelude.{◌≡◌, ◌++◌, ◌∷◌, [], Bool, List, chars, encode_utf8_all, false, true, ℕ}
use Rattle.kdl.specs.Words.{IsDocument, Nodes, Value, canonical_text}
use Rattle.kdl_json.specs.Form.{IsJsonOf, json_text}
use Rattle.kdl_path.specs.Paths.{all_at, at_path}
use Rattle.kdl_path.specs.declared.path.Path.{Path}
use Rattle.cli_shown.specs.Values.{line_of}

-- the values that are asked for: each one at the path if `all`, and else the one
abbrev pub asked : Path → (all : Bool) → Nodes → List Value
asked p true x = all_at p x
asked p false x = option_to_list (at_path p x)

-- the output has each value that is asked for on a line of its own, and at least one
abbrev pub IsShown : Path → (raw all : Bool) → (text out : List ℕ) → Type 0
IsShown p raw all text out = (x : Nodes) × IsDocument (chars text) x
    × (asked p all x ≡ [] → ⊥) × (out ≡ flat_map (line_of raw) (asked p all x))

-- the output is the JSON of the data of the text, and a newline
abbrev pub IsJsonShown : (text out : List ℕ) → Type 0
IsJsonShown text out = (x : Nodes) × IsDocument (chars text) x × (out ≡ json_text x ++ (10 ∷ []))

-- the output is the canonical text of the data that the JSON is of, and is a document with these data
abbrev pub IsOfJson : (json out : List ℕ) → Type 0
IsOfJson json out = (x : Nodes) × IsJsonOf json x × (out ≡ encode_utf8_all (canonical_text x)) × IsDocument (chars out) x
