-- What formatting makes of a text, and the edits of it that a client gets.
use Rattle.std.specs.List.{repeat}
use Rattle.std.specs.Prelude.{◌≡◌, ◌≢◌, ◌⊎◌, ◌++◌, ◌∷◌, [], ℕ, List, Option, None, Some, IsSomeAnd, chars, codes, false, flat_map, map, min, option_and_then, true}
use Rattle.std.specs.Str.{encode_utf8_all}
use Rattle.json.specs.Find.{as_bool, get}
use Rattle.json.specs.Json.{Json}
use Rattle.json.specs.Print.{print}
use Rattle.json.specs.Token.{Token, begin_array, begin_object, end_array, end_object, key, null, string}
use Rattle.kdl.specs.Words.{Document, IsDocument, IsLaidDocument, LaidDocument, Nodes, Settings, defaults, print_document}
use Rattle.lsp.specs.Faults.{range_tokens}
use Rattle.lsp_documents.specs.Notes.{IsNumber, at}
use Rattle.lsp_text.specs.Lines.{AreEditsWithin, AreLineEdits, all_edited, edit_of, lines}
use Rattle.lsp_text.specs.declared.edit.Edit.{Edit}
use Rattle.lsp_text.specs.declared.part.Lines.{Lines}
use Rattle.lsp_text.specs.declared.position.Encoding.{Encoding}
use Rattle.lsp_text.specs.declared.position.Range.{Range}

-- the options of a request ask for tabs; they have the size of a tab
abbrev pub AsksForTabs : Json → Type 0
AsksForTabs params = option_and_then as_bool (at (codes "options") (codes "insertSpaces") params) ≡ Some false

abbrev pub HasSize : Json → ℕ → Type 0
HasSize params size = IsSomeAnd (get (codes "options") params) (λ options. IsNumber (codes "tabSize") options size)

-- the indent that a request asks for: a tab, or as many spaces as a tab has, but at most 64; 4 if it has no size
abbrev pub IsIndent : Json → Option ℕ → Type 0
IsIndent params None = AsksForTabs params
IsIndent params (Some n) = (AsksForTabs params → ⊥) × (((size : ℕ) × HasSize params size × (n ≡ min size 64)) ⊎ (((size : ℕ) → HasSize params size → ⊥) × (n ≡ 4)))

-- the bytes of an indent: so many spaces, or a tab
abbrev pub indent_bytes : Option ℕ → List ℕ
indent_bytes None = 9 ∷ []
indent_bytes (Some n) = repeat n (32 ∷ [])

-- the settings of layout: its defaults, with this indent
abbrev pub layout_settings : Option ℕ → Settings
layout_settings indent = record defaults { indent = chars (indent_bytes indent) }

-- a text is no document
abbrev pub IsNoDocument : List ℕ → Type 0
IsNoDocument text = (x : Nodes) → IsDocument (chars text) x → ⊥

-- the new text is what the document of a text prints after layout, which keeps one blank line, spellings, comments inside
-- entries and types, and blocks on one line, and puts no newline in place of nodes
pub record IsLaidOut (indent : Option ℕ) (text new : List ℕ) : Type 0 where
  pub before : Document
  pub after : Document
  pub laid : LaidDocument before (chars text)
  pub formatted : IsLaidDocument (record { spelling = true; comments = true }) true true 1 (layout_settings indent) 0 before after
  pub prints : new ≡ encode_utf8_all (print_document after 0)

-- an edit as JSON, by its range and its text, and a list of edits
abbrev pub edit_tokens : Range → List ℕ → List Token
edit_tokens range new = begin_object ∷ (key (codes "range") ∷ range_tokens range) ++ key (codes "newText") ∷ string new ∷ end_object ∷ []

abbrev pub edits_tokens : List Edit → List Token
edits_tokens ds = begin_array ∷ flat_map (λ d. edit_tokens d.range d.text.now) ds ++ end_array ∷ []

-- JSON is edits of whole lines that make a text the new one
abbrev pub IsEditsTo : Encoding → List ℕ → List ℕ → List ℕ → Type 0
IsEditsTo e text new out = (ds : List Edit) × (all_edited e (map edit_of ds) (chars text) ≡ chars new)
    × AreLineEdits e (chars text) 0 (lines (chars text)) (lines (chars new)) (map edit_of ds) × (out ≡ print (edits_tokens ds))

-- JSON is the result of formatting: null for what is no document, else edits that make a text its layout
abbrev pub IsFormatting : Encoding → Option ℕ → List ℕ → List ℕ → Type 0
IsFormatting e indent text out = (IsNoDocument text × (out ≡ print (null ∷ []))) ⊎ ((new : List ℕ) × IsLaidOut indent text new × IsEditsTo e text new out)

-- a text is no document, or the layout of it is not the new text
abbrev pub IsLaidOutOtherwise : Option ℕ → List ℕ → List ℕ → Type 0
IsLaidOutOtherwise indent text new = IsNoDocument text ⊎ ((other : List ℕ) × IsLaidOut indent text other × (other ≢ new))

-- JSON is the edits within some lines, of those that make a text the new one; or no edits, if the text after them is laid out otherwise
abbrev pub IsPartTo : Encoding → Option ℕ → Lines → List ℕ → List ℕ → List ℕ → Type 0
IsPartTo e indent ls text new out = (ds : List Edit) × (part : List ℕ) × AreEditsWithin e ls (chars text) (chars new) (map edit_of ds) × (chars part ≡ all_edited e (map edit_of ds) (chars text))
    × ((IsLaidOut indent part new × (out ≡ print (edits_tokens ds))) ⊎ (IsLaidOutOtherwise indent part new × (out ≡ print (edits_tokens []))))

-- JSON is the result of formatting some lines: null for what is no document, else edits of the lines
abbrev pub IsLinesFormatting : Encoding → Option ℕ → Lines → List ℕ → List ℕ → Type 0
IsLinesFormatting e indent ls text out = (IsNoDocument text × (out ≡ print (null ∷ []))) ⊎ ((new : List ℕ) × IsLaidOut indent text new × IsPartTo e indent ls text new out)
