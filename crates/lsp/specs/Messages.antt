-- Messages of a client.
use Rattle.std.specs.Prelude.{◌≡◌, ◌≢◌, ◌∷◌, [], ℕ, Bool, List, Option, None, Some, IfSome, IsSome, IsSomeAnd, codes, is_none, option_and_then, unwrap_or, if◌then◌else◌}
use Rattle.std.specs.List.{list_any}
use Rattle.std.specs.Str.{bytes_eq}
use Rattle.json.specs.Find.{get, as_str}
use Rattle.json.specs.Json.{Json, document, null}
use Rattle.kdl_text.specs.declared.span.Severity.{Severity}
use Rattle.kdl_text.specs.declared.span.Severity.TheVariants.{Error, Warning, Advice}
use Rattle.lsp_documents.specs.Notes.{Note, Tells, uri_of}
use Rattle.lsp_text.specs.declared.position.Encoding.{Encoding}
use Rattle.lsp_text.specs.declared.position.Encoding.TheVariants.{Utf8, Utf16, Utf32}

-- the name of an encoding, as `PositionEncodingKind` of the protocol
abbrev pub encoding_name : Encoding → List ℕ
encoding_name Utf8 = codes "utf-8"
encoding_name Utf16 = codes "utf-16"
encoding_name Utf32 = codes "utf-32"

-- the number of a severity, as `DiagnosticSeverity` of the protocol
abbrev pub severity_number : Severity → ℕ
severity_number Error = 1
severity_number Warning = 2
severity_number Advice = 3

-- the method of a notification, which is a message without an identifier
abbrev pub method_of : Json → Option (List ℕ)
method_of j = if is_none (get (codes "id") j) then option_and_then as_str (get (codes "method") j) else None

-- the parameters of a message, or null
abbrev pub params_of : Json → Json
params_of j = unwrap_or (get (codes "params") j) null

-- a message is a notification that tells it
abbrev pub TellsIn : Json → Note → Type 0
TellsIn j note = IsSomeAnd (method_of j) (λ method. Tells method (params_of j) note)

-- a text is such a notification
abbrev pub TextTells : List ℕ → Note → Type 0
TextTells text note = IsSomeAnd (document text) (λ j. TellsIn j note)

-- a method tells nothing about documents, and is not `exit`
abbrev pub IsIgnored : List ℕ → Type 0
IsIgnored method = (method ≢ codes "exit") × (method ≢ codes "textDocument/didOpen") × (method ≢ codes "textDocument/didChange") × (method ≢ codes "textDocument/didClose")

-- a text is JSON, but no notification about documents, and not `exit`
abbrev pub IsQuiet : List ℕ → Type 0
IsQuiet text = IsSomeAnd (document text) (λ j. IfSome (method_of j) IsIgnored)

-- a text is a message that names the document of a URI
abbrev pub Names : List ℕ → List ℕ → Type 0
Names text uri = IsSomeAnd (document text) (λ j. uri_of (params_of j) ≡ Some uri)

-- a message is a request with the identifier; a text is such a message
abbrev pub AsksIn : Json → Json → Type 0
AsksIn j id = (get (codes "id") j ≡ Some id) × IsSome (option_and_then as_str (get (codes "method") j))

abbrev pub Asks : List ℕ → Json → Type 0
Asks text id = IsSomeAnd (document text) (λ j. AsksIn j id)

-- a message is a request with the identifier, the method and the parameters; a text is such a message
abbrev pub AsksForIn : Json → Json → List ℕ → Json → Type 0
AsksForIn j id method params = (get (codes "id") j ≡ Some id) × (option_and_then as_str (get (codes "method") j) ≡ Some method) × (params_of j ≡ params)

abbrev pub AsksFor : List ℕ → Json → List ℕ → Json → Type 0
AsksFor text id method params = IsSomeAnd (document text) (λ j. AsksForIn j id method params)

-- a text is a notification
abbrev pub Notifies : List ℕ → Type 0
Notifies text = IsSomeAnd (document text) (λ j. IsSome (method_of j))

-- a message is the request `initialize` with the identifier; a text is such a message
abbrev pub StartsIn : Json → Json → Type 0
StartsIn j id = (get (codes "id") j ≡ Some id) × (option_and_then as_str (get (codes "method") j) ≡ Some (codes "initialize"))

abbrev pub Starts : List ℕ → Json → Type 0
Starts text id = IsSomeAnd (document text) (λ j. StartsIn j id)

-- the methods of requests about a document; a method is one of them
abbrev pub methods : List (List ℕ)
methods =
    codes "textDocument/formatting"
    ∷ codes "textDocument/rangeFormatting"
    ∷ codes "textDocument/documentSymbol"
    ∷ codes "textDocument/foldingRange"
    ∷ codes "textDocument/hover"
    ∷ codes "textDocument/selectionRange"
    ∷ codes "textDocument/completion"
    ∷ codes "textDocument/codeAction"
    ∷ codes "textDocument/semanticTokens/full"
    ∷ []

abbrev pub is_known : List ℕ → Bool
is_known method = list_any (bytes_eq method) methods

-- a text is the notification `exit`
abbrev pub Exits : List ℕ → Type 0
Exits text = IsSomeAnd (document text) (λ j. method_of j ≡ Some (codes "exit"))
