-- A fault as a JSON object.
use Rattle.std.specs.Prelude.{◌≡◌, ℕ, [], ◌∷◌, ◌++◌, List, OnOk, Option, Result, Some, None, codes, decimal, option_map, string_bytes}
use Rattle.std.specs.Str.{encode_utf8_all}
use Rattle.json.specs.Print.{print}
use Rattle.json.specs.Token.{Token, begin_object, end_object, key, string, number, null}
use Rattle.json.specs.Written.{Written}
use Rattle.kdl_text.specs.Chars.{Text}
use Rattle.kdl_text.specs.declared.error.KdlDiagnostic.{KdlDiagnostic}
use Rattle.kdl_report.specs.Hints.{hint_of}
use Rattle.kdl_report.specs.Places.{column, line_number}
use Rattle.kdl_report.specs.Said.{word_of}

-- a text, or null
abbrev pub or_null : Option (List ℕ) → Token
or_null None = null
or_null (Some s) = string s

-- a member that is a number, and one that is a text or null
abbrev pub number_member : List ℕ → ℕ → List Token
number_member name n = key name ∷ number (decimal n) ∷ []

abbrev pub text_member : List ℕ → Option (List ℕ) → List Token
text_member name o = key name ∷ or_null o ∷ []

-- the members that say where the fault is in the text t
abbrev pub place_members : Text → KdlDiagnostic → List Token
place_members t fault =
    number_member (codes "line") (line_number fault.span.offset t) ++ number_member (codes "column") (column fault.span.offset t)
    ++ number_member (codes "offset") fault.span.offset ++ number_member (codes "length") fault.span.len

-- the members that say what the fault is
abbrev pub word_members : KdlDiagnostic → List Token
word_members fault =
    text_member (codes "severity") (Some (encode_utf8_all (word_of fault.severity))) ++ text_member (codes "message") (option_map string_bytes fault.message)
    ++ text_member (codes "label") (option_map string_bytes fault.label) ++ text_member (codes "help") (option_map string_bytes fault.help)

-- the object of a fault in the text t of the file with that name
abbrev pub fault_tokens : List ℕ → Text → KdlDiagnostic → List Token
fault_tokens name t fault =
    (begin_object ∷ []) ++ text_member (codes "file") (Some name) ++ place_members t fault ++ word_members fault
    ++ text_member (codes "hint") (hint_of t fault) ++ (end_object ∷ [])

-- the object as a text without spaces, on a line
abbrev pub fault_json : List ℕ → Text → KdlDiagnostic → List ℕ
fault_json name t fault = print (fault_tokens name t fault) ++ 10 ∷ []

-- on success the tokens are appended
abbrev pub Puts : {E : Type 0} → Result (Unit {0}) E → Written → Written → List Token → Type 0
Puts r old new ts = OnOk r ((new.before ≡ old.before) × (new.tokens ≡ old.tokens ++ ts))
