-- What becomes of the documents of a server after a notification.
use Rattle.std.specs.Prelude.{◌≡◌, ◌≢◌, ℕ, List, Contains, Some, String, IsNone, IsSome, MatchOption, string_bytes}
use Rattle.std.specs.Global.{Global}
use Rattle.json.specs.Json.{Json}
use Rattle.lsp_documents.specs.declared.notify.Outcome.{Outcome}
use Rattle.lsp_documents.specs.declared.notify.Outcome.TheVariants as outcome
use Rattle.lsp_documents.specs.declared.state.State.{State}
use Rattle.lsp_documents.specs.Notes.{Note, Opened, Changed, Closed, uri_of}
use Rattle.lsp_documents.specs.States.{IsKnown, document_at}

-- the documents that parameters do not name stay as they were
abbrev pub UnnamedStay : State → State → Json → Type 0
UnnamedStay old new params = (uri : List ℕ) → uri_of params ≢ Some uri → document_at new uri ≡ document_at old uri

-- a document that was open stays open, and one that was not is not opened
abbrev pub StaysOpen : State → State → List ℕ → Type 0
StaysOpen old new uri = MatchOption (document_at old uri) (IsNone (document_at new uri)) (λ _. IsSome (document_at new uri))

-- a server says that the text of the document of a URI is not known
abbrev pub SaysUnknown : Outcome → List ℕ → Type 0
SaysUnknown (outcome.Unknown named) uri = named.now ≡ uri
SaysUnknown _ uri = ⊥

-- a document that is opened, and an open one that changes, is open and its text is known, unless a server says that it is
-- not; one that is closed is not open
abbrev pub IsTaken : State → State → (List ℕ → Type 0) → Note → Type 0
IsTaken old new Says (Opened uri text) = (Says uri → ⊥) → IsKnown new uri
IsTaken old new Says (Changed uri changes) = (Says uri → ⊥) → IsSome (document_at old uri) → IsKnown new uri
IsTaken old new Says (Closed uri) = IsNone (document_at new uri)

-- the faults of the document of a URI are to be published
unfoldable pub IsDue : State → List ℕ → Type 0
IsDue s uri = (u : String Global) × Contains s.due.items u × (string_bytes u ≡ uri)

-- so are those of a document that is opened, and of an open one that changes, unless a server says that its text is not known
abbrev pub MarksDue : State → State → (List ℕ → Type 0) → Note → Type 0
MarksDue old new Says (Opened uri text) = (Says uri → ⊥) → IsDue new uri
MarksDue old new Says (Changed uri changes) = (Says uri → ⊥) → IsSome (document_at old uri) → IsDue new uri
MarksDue old new Says (Closed uri) = Unit {0}

-- what a server has to say is so: the text of the document that parameters name is not known, or it is not open
abbrev pub IsSo : Outcome → Json → State → Type 0
IsSo outcome.Nothing params s = Unit {0}
IsSo (outcome.Unknown uri) params s = (uri_of params ≡ Some uri.now) × (IsKnown s uri.now → ⊥)
IsSo (outcome.Closed uri) params s = (uri_of params ≡ Some uri.now) × IsNone (document_at s uri.now)
