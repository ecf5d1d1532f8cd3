-- What the calls return.
use Rattle.std.specs.Prelude.{ℕ, List, [], ◌∷◌, Option, None, Some, ◌≡◌}
use Rattle.std.specs.Str.{encode_utf8_all}
use Rattle.kdl.specs.Words.{document_prints}
use Rattle.kdl.specs.declared.document.KdlDocument.{KdlDocument}
use Rattle.kdl_text.specs.declared.error.ParseFailure.{ParseFailure}
use Rattle.kdl_text.specs.declared.error.ParseFailure.TheVariants.{Memory, Syntax}

-- the status for a parse failure
abbrev pub failure_status : ParseFailure → ℕ
failure_status (Syntax _) = 1
failure_status Memory = 3

-- the status is one of these: if it is not the first, it is one of the others
abbrev pub IsAmong : List ℕ → ℕ → Type 0
IsAmong [] s = ⊥
IsAmong (t ∷ ts) s = (s ≡ t → ⊥) → IsAmong ts s

-- both documents exist, and R relates them; or neither exists
abbrev pub Each : (KdlDocument → KdlDocument → Type 0) → Option KdlDocument → Option KdlDocument → Type 0
Each R None new = new ≡ None
Each R (Some d) None = ⊥
Each R (Some d) (Some e) = R d e

-- the bytes that a document prints
abbrev pub printed_bytes : KdlDocument → List ℕ
printed_bytes d = encode_utf8_all (document_prints d)
