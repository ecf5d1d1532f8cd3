-- What a client tells about its documents, and the texts that it has.
use Rattle.std.specs.Prelude.{◌≡◌, ◌*◌, ◌^◌, ◌<◌, ℕ, Option, None, Some, List, [], ◌∷◌, IfSome, IsSomeAnd, IsTrue, chars, codes, option_map, option_and_then, string_bytes, true, if◌then◌else◌}
use Rattle.std.specs.Option.{option_map_or}
use Rattle.std.specs.Str.{bytes_eq}
use Rattle.fast_float.specs.Text.{digits_of, has_digits, scan, tens_down, tens_up}
use Rattle.json.specs.Find.{get, is_null, as_str, as_number}
use Rattle.json.specs.Json.{Json, array, Items, no_items, item}
use Rattle.lsp_documents.specs.declared.state.Document.{Document}
use Rattle.lsp_documents.specs.declared.state.State.{State}
use Rattle.lsp_documents.specs.States.{document_at}
use Rattle.lsp_text.specs.declared.position.Encoding.{Encoding}
use Rattle.lsp_text.specs.declared.position.Position.{Position}
use Rattle.lsp_text.specs.declared.position.Range.{Range}
use Rattle.lsp_text.specs.Positions.{Text, all_changed}

-- a member of a member of a value
abbrev pub at : List ℕ → List ℕ → Json → Option Json
at outer inner j = option_and_then (get inner) (get outer j)

-- the URI of the document that parameters name
abbrev pub uri_of : Json → Option (List ℕ)
uri_of params = option_and_then as_str (at (codes "textDocument") (codes "uri") params)

-- the text of the document, as bytes
abbrev pub text_of : Json → Option (List ℕ)
text_of params = option_and_then as_str (at (codes "textDocument") (codes "text") params)

-- the text of a number is the whole number n, also with a point or an exponent, as `1.0` or `10e-1`
abbrev pub IsNatural : List ℕ → ℕ → Type 0
IsNatural text n = let p = scan text in IsTrue (has_digits p) × (n * 10 ^ tens_down p ≡ digits_of p * 10 ^ tens_up p) × (n < 2 ^ 64)

-- the member of that name is the whole number n
abbrev pub IsNumber : List ℕ → Json → ℕ → Type 0
IsNumber name j n = IsSomeAnd (option_and_then as_number (get name j)) (λ text. IsNatural text n)

-- a value is the position
abbrev pub IsPosition : Json → Position → Type 0
IsPosition j p = IsNumber (codes "line") j p.line × IsNumber (codes "character") j p.character

-- a value is the range
abbrev pub IsRange : Json → Range → Type 0
IsRange j r = IsSomeAnd (get (codes "start") j) (λ start. IsPosition start r.start) × IsSomeAnd (get (codes "end") j) (λ end. IsPosition end r.end)

-- there is no value, or it is null; or it is the range
abbrev pub IsRangeIf : Option Json → Option Range → Type 0
IsRangeIf j None = IsTrue (option_map_or is_null j true)
IsRangeIf j (Some r) = IsSomeAnd j (λ j. IsRange j r)

-- a value is the change: the range that it replaces, and the new text
abbrev pub IsChange : Json → Option Range × Text → Type 0
IsChange j c = IsRangeIf (get (codes "range") j) c.0 × IsSomeAnd (option_and_then as_str (get (codes "text") j)) (λ text. chars text ≡ c.1)

-- values are the changes, in their order
abbrev pub AreChanges : Items → List (Option Range × Text) → Type 0
AreChanges no_items [] = Unit {0}
AreChanges (item j js) (c ∷ cs) = IsChange j c × AreChanges js cs
AreChanges _ _ = ⊥

-- parameters have the changes
abbrev pub HasChanges : Json → List (Option Range × Text) → Type 0
HasChanges params cs = (js : Items) × (get (codes "contentChanges") params ≡ Some (array js)) × AreChanges js cs

-- what a client tells: it opens a text, changes it, or closes it
pub data Note : Type 0 where
  Opened : List ℕ → Text → Note
  Changed : List ℕ → List (Option Range × Text) → Note
  Closed : List ℕ → Note

-- a notification of that method with the parameters tells it
abbrev pub Tells : List ℕ → Json → Note → Type 0
Tells method params (Opened uri text) = (method ≡ codes "textDocument/didOpen") × (uri_of params ≡ Some uri) × (option_map chars (text_of params) ≡ Some text)
Tells method params (Changed uri changes) = (method ≡ codes "textDocument/didChange") × (uri_of params ≡ Some uri) × HasChanges params changes
Tells method params (Closed uri) = (method ≡ codes "textDocument/didClose") × (uri_of params ≡ Some uri)

-- the texts that a client has, by their URIs
abbrev pub Texts : Type 0
Texts = List ℕ → Text

-- the texts with another one for a URI
abbrev pub with_text : Texts → List ℕ → Text → Texts
with_text texts uri text other = if bytes_eq uri other then text else texts other

-- the texts of a client after it tells
abbrev pub after : Encoding → Note → Texts → Texts
after e (Opened uri text) texts = with_text texts uri text
after e (Changed uri changes) texts = with_text texts uri (all_changed e changes (texts uri))
after e (Closed uri) texts = texts

-- a text of the document that the server knows is the text
abbrev pub IsOf : Text → Document → Type 0
IsOf text document = IfSome document.text (λ known. chars (string_bytes known) ≡ text)

-- each text that the server knows is the client's
abbrev pub Agrees : State → Texts → Type 0
Agrees s texts = (uri : List ℕ) → IfSome (document_at s uri) (IsOf (texts uri))
