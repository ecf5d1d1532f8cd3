-- The faults of a document, as the protocol has them.
use Rattle.std.specs.Prelude.{◌≡◌, ◌++◌, ◌∷◌, [], ℕ, ℤ, List, Option, None, Some, Result, Ok, Err, String, codes, decimal, chars, option_and_then, option_map, string_bytes, unwrap_or, MatchOption}
use Rattle.std.specs.Fmt.{signed_decimal}
use Rattle.std.specs.Global.{Global}
use Rattle.json.specs.Print.{print}
use Rattle.json.specs.Token.{Token, begin_array, begin_object, end_array, end_object, key, number, string}
use Rattle.kdl.specs.Parses.{ChecksDocument}
use Rattle.kdl_text.specs.declared.error.KdlDiagnostic.{KdlDiagnostic}
use Rattle.kdl_text.specs.declared.error.ParseFailure.{ParseFailure}
use Rattle.kdl_text.specs.declared.error.ParseFailure.TheVariants.{Syntax, Memory}
use Rattle.lsp.specs.Messages.{severity_number}
use Rattle.lsp.specs.Replies.{notice_head}
use Rattle.lsp_documents.specs.States.{document_at}
use Rattle.lsp_documents.specs.declared.state.State.{State}
use Rattle.lsp_text.specs.Positions.{byte_range}
use Rattle.lsp_text.specs.declared.position.Encoding.{Encoding}
use Rattle.lsp_text.specs.declared.position.Position.{Position}
use Rattle.lsp_text.specs.declared.position.Range.{Range}

-- the faults that a check of a text finds, if it has memory
abbrev pub found_in : Result (Unit {0}) ParseFailure → Option (List KdlDiagnostic)
found_in (Ok u) = Some []
found_in (Err (Syntax e)) = Some e.diagnostics.items
found_in (Err Memory) = None

-- these are the faults of a text
abbrev pub AreFaultsOf : List ℕ → List KdlDiagnostic → Type 0
AreFaultsOf text faults = (r : Result (Unit {0}) ParseFailure) × ChecksDocument text r × (found_in r ≡ Some faults)

-- ---- as JSON

-- a position, and a range
abbrev pub position_tokens : Position → List Token
position_tokens p = begin_object ∷ key (codes "line") ∷ number (decimal p.line) ∷ key (codes "character") ∷ number (decimal p.character) ∷ end_object ∷ []

abbrev pub range_tokens : Range → List Token
range_tokens r = begin_object ∷ (key (codes "start") ∷ position_tokens r.start) ++ (key (codes "end") ∷ position_tokens r.end) ++ end_object ∷ []

-- the range of a fault, in what positions count
abbrev pub range_in : Encoding → List ℕ → KdlDiagnostic → Range
range_in e text d = byte_range e d.span.offset d.span.len (chars text)

-- the message of a fault
abbrev pub message_in : KdlDiagnostic → List ℕ
message_in d = unwrap_or (option_map string_bytes d.message) (codes "Unexpected error")

-- tokens are the diagnostic of a fault: its range, its severity, its message, and what else a client reads
abbrev pub IsDiagnostic : Encoding → List ℕ → KdlDiagnostic → List Token → Type 0
IsDiagnostic e text d ts = (help : List ℕ) × (more : List Token) × (ts ≡ begin_object ∷ (key (codes "range") ∷ range_tokens (range_in e text d))
    ++ key (codes "severity") ∷ number (decimal (severity_number d.severity)) ∷ key (codes "source") ∷ string (codes "kdl") ∷ key (codes "message") ∷ string (message_in d ++ help) ∷ more)

-- tokens are the diagnostics of faults, in order
abbrev pub AreDiagnostics : Encoding → List ℕ → List KdlDiagnostic → List Token → Type 0
AreDiagnostics e text [] ts = ts ≡ []
AreDiagnostics e text (d ∷ ds) ts = (us vs : List Token) × (ts ≡ us ++ vs) × IsDiagnostic e text d us × AreDiagnostics e text ds vs

-- the version of a document, if it has one
abbrev pub version_tokens : Option ℤ → List Token
version_tokens None = []
version_tokens (Some v) = key (codes "version") ∷ number (signed_decimal v) ∷ []

-- a notification of the diagnostics of the document of a URI: what comes before them, what comes after them, and the whole
abbrev pub notice_front : List ℕ → Option ℤ → List Token
notice_front uri version = notice_head (codes "textDocument/publishDiagnostics") ++ (begin_object ∷ key (codes "uri") ∷ string uri ∷ version_tokens version) ++ key (codes "diagnostics") ∷ begin_array ∷ []

abbrev pub notice_end : List Token
notice_end = end_array ∷ end_object ∷ end_object ∷ []

abbrev pub notice_tokens : List ℕ → Option ℤ → List Token → List Token
notice_tokens uri version ts = notice_front uri version ++ (ts ++ notice_end)

-- a message publishes the faults of the text of a document
abbrev pub IsFaultsNotice : Encoding → List ℕ → Option ℤ → List ℕ → String Global → Type 0
IsFaultsNotice e uri version text m = (faults : List KdlDiagnostic) × (ts : List Token) × AreFaultsOf text faults × AreDiagnostics e text faults ts × (string_bytes m ≡ print (notice_tokens uri version ts))

-- the version and the text of a document, if it is open and its text is known
abbrev pub known_at : State → List ℕ → Option (Option ℤ × List ℕ)
known_at s uri = option_and_then (λ d. option_map (λ text. (d.version, string_bytes text)) d.text) (document_at s uri)

-- one message publishes the faults of the document of a URI, or none, if its text is not known
abbrev pub PublishOne : State → List ℕ → List (String Global) → Type 0
PublishOne s uri ms = MatchOption (known_at s uri) (ms ≡ []) (λ k. (m : String Global) × (ms ≡ m ∷ []) × IsFaultsNotice s.client.encoding uri k.0 k.1 m)

-- messages publish the faults of the documents of URIs, in order: of those whose text is known
abbrev pub PublishEach : State → List (String Global) → List (String Global) → Type 0
PublishEach s [] ms = ms ≡ []
PublishEach s (uri ∷ uris) ms = MatchOption (known_at s (string_bytes uri)) (PublishEach s uris ms)
    (λ k. (m : String Global) × (rest : List (String Global)) × (ms ≡ m ∷ rest) × IsFaultsNotice s.client.encoding (string_bytes uri) k.0 k.1 m × PublishEach s uris rest)
