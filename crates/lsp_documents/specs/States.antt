-- The documents of a server.
use Rattle.std.specs.Prelude.{◌≡◌, ◌≢◌, ℕ, ℤ, Bool, true, false, Option, List, [], IfSome, IsNone, IsSome, IsSomeAnd, IsTrue, String, chars, is_none, map, string_bytes}
use Rattle.std.specs.BTreeMap.{get_by_text}
use Rattle.std.specs.Global.{Global}
use Rattle.std.specs.List.{list_any}
use Rattle.std.specs.Option.{option_map_or}
use Rattle.lsp_documents.specs.declared.state.Document.{Document}
use Rattle.lsp_documents.specs.declared.state.Phase.{Phase}
use Rattle.lsp_documents.specs.declared.state.Phase.TheVariants.{New, Running, Down, Over}
use Rattle.lsp_documents.specs.declared.state.State.{State}
use Rattle.lsp_text.specs.declared.change.Change.{Change}
use Rattle.lsp_text.specs.declared.position.Encoding.{Encoding}
use Rattle.lsp_text.specs.Positions.{Text, all_changed, change_of}

-- the document of a URI, if it is open
abbrev pub document_at : State → List ℕ → Option Document
document_at s uri = get_by_text s.open uri

-- the document of a URI is open, and its text is known
abbrev pub IsKnown : State → List ℕ → Type 0
IsKnown s uri = IsSomeAnd (document_at s uri) (λ document. IsSome document.text)

-- a text, or the empty one if it is not known
abbrev pub known_text : Option (String Global) → Text
known_text text = option_map_or (λ s. chars (string_bytes s)) text []

-- a change is a whole text
abbrev pub has_whole_text : List Change → Bool
has_whole_text changes = list_any (λ change. is_none change.range) changes

-- the document has the version, and its text is not known, or that after the changes; it is known after one that was not
-- only if a change is a whole text
abbrev pub IsChanged : Encoding → List Change → Option ℤ → Document → Document → Type 0
IsChanged e changes version old new =
    (new.version ≡ version)
    × IfSome new.text (λ s. chars (string_bytes s) ≡ all_changed e (map change_of changes) (known_text old.text))
    × (IsNone old.text → IsSome new.text → IsTrue (has_whole_text changes))

-- the documents of other URIs stay as they were
abbrev pub OthersStay : State → State → List ℕ → Type 0
OthersStay old new uri = (other : List ℕ) → other ≢ uri → document_at new other ≡ document_at old other

-- all but the document of the URI stays as it was
pub record ChangesOnly (old new : State) (uri : List ℕ) : Type 0 where
  pub phase : new.phase ≡ old.phase
  pub client : new.client ≡ old.client
  pub due : new.due ≡ old.due
  pub others : OthersStay old new uri

-- the phase and the client stay as they were
abbrev pub SessionStays : State → State → Type 0
SessionStays old new = (new.phase ≡ old.phase) × (new.client ≡ old.client)

-- the session is over
abbrev pub is_over : Phase → Bool
is_over (Over b) = true
is_over _ = false

-- `shutdown` came, and `exit` did not yet
abbrev pub is_down : Phase → Bool
is_down New = false
is_down Running = false
is_down Down = true
is_down (Over was_down) = false
