-- Texts that are read as documents, nodes, entries or values.
use Rattle.std.specs.Prelude.{◌≡◌, ◌⊎◌, ℕ, zero, suc, List, [], ◌∷◌, codes, length}
use Rattle.std.specs.Str.{chars}
use Rattle.kdl.specs.Words.{EntryData, IsDocument, IsEntryText, IsNodeText, NodeData, Nodes, Tells, Text, Value}
use Rattle.c_calls.specs.Entries.{IsValueText}
use Rattle.c_calls.specs.Listed.{AreFaultsOf, Fault}
use Rattle.c_calls.specs.declared.given_faults.Reading.{Reading}
use Rattle.c_calls.specs.declared.given_faults.Reading.TheVariants.{Read, NotValue, Refused, Memory}

-- the text is a document, a node, an entry, or a value, for the kinds 0 to 3; no text is of another kind
abbrev pub IsRead : ℕ → Text → Type 0
IsRead zero t = (x : Nodes) × IsDocument t x
IsRead (suc zero) t = (x : NodeData) × IsNodeText t x
IsRead (suc (suc zero)) t = (x : EntryData) × IsEntryText t x
IsRead (suc (suc (suc zero))) t = (v : Value) × IsValueText t v
IsRead (suc (suc (suc (suc _)))) t = ⊥

-- the result of reading the text as the kind: a text that is read is of the kind, and one that is refused is not; for a
-- value, a text that is not one is an entry, and one that is refused is not even an entry
abbrev pub Outcome : ℕ → List ℕ → Reading → Type 0
Outcome kind s Read = IsRead kind (chars s)
Outcome kind s NotValue = (kind ≡ 3) × IsRead 2 (chars s) × (IsRead kind (chars s) → ⊥)
Outcome kind s (Refused e) = Tells s e × (IsRead kind (chars s) → ⊥) × (kind ≡ 3 → IsRead 2 (chars s) → ⊥)
Outcome kind s Memory = Unit {0}

-- the fault of an entry that is more than a value and is read as one: it concerns the whole text
abbrev pub not_value : List ℕ → Fault
not_value text = record { span = record { offset = 0; len = length text }; message = codes "Expected value without key, type, space or comment"; label = []; help = [] }

-- the faults of a text that is read as the kind: those of its error, or that of an entry that is not a value
abbrev pub AreFaultsAs : ℕ → List ℕ → List Fault → Type 0
AreFaultsAs kind text fs =
    (AreFaultsOf text fs × (kind ≡ 3 → IsRead 2 (chars text) → ⊥))
    ⊎ ((kind ≡ 3) × IsRead 2 (chars text) × (fs ≡ not_value text ∷ []))
