-- What a run of the tool reads, writes and returns.
use Rattle.std.specs.Prelude.{◌≡◌, ℕ, ◌<◌, Bool, true, false, IsTrue, List, length, take, Option, Some, None, Result, Err, IsUtf8, chars}
use Rattle.std.specs.Io.KnownBytes.{Appends, Consumes, IsAtEnd}
use Rattle.kdl_text.specs.Failures.{Tells}
use Rattle.kdl_grammar.specs.Data.{Nodes}
use Rattle.kdl_grammar.specs.Grammar.{IsDocument}
use Rattle.tool.specs.Commands.{Asked, IsWritten, words_of}
use Rattle.tool.specs.declared.Outcome.{Outcome}
use Rattle.tool.specs.declared.Outcome.TheVariants.{Done, Refused, NotUtf8, NoValue, Usage, ReadFailed, WriteFailed, Memory}
use Rattle.tool.specs.declared.Unread.{Unread}
use Rattle.tool.specs.declared.Unread.TheVariants.{Failed}

-- the outcome for arguments that are not a command
abbrev pub IsUsage : Outcome → Type 0
IsUsage Usage = Unit {0}
IsUsage _ = ⊥

-- the outcome of a read that failed
abbrev pub is_read_failed : Outcome → Bool
is_read_failed ReadFailed = true
is_read_failed _ = false

-- the outcome of a write that failed, or wrote no byte
abbrev pub is_write_failed : Outcome → Bool
is_write_failed WriteFailed = true
is_write_failed _ = false

-- a read failed, so that the input was not read to its end
abbrev pub is_unread_failed : {X : Type 0} → Result X Unread → Bool
is_unread_failed (Err Failed) = true
is_unread_failed _ = false

-- the run succeeded
abbrev pub IsDone : Outcome → Type 0
IsDone Done = Unit {0}
IsDone _ = ⊥

-- the reader had exactly these bytes, and returned all of them
abbrev pub IsInput : Option (List ℕ) → Option (List ℕ) → List ℕ → Type 0
IsInput had left bytes = Consumes had left bytes × IsAtEnd left

-- the bytes are a text that the grammar derives, with these data and no others
pub record Says (bytes : List ℕ) (x : Nodes) : Type 0 where
  pub utf8 : IsUtf8 bytes
  pub derived : IsDocument (chars bytes) x
  pub alone : (y : Nodes) → IsDocument (chars bytes) y → y ≡ x

-- what a run with these arguments writes for these bytes; None if they have no such value
pub record Output (words : List (List ℕ)) (bytes : List ℕ) (out : Option (List ℕ)) : Type 0 where
  pub asked : Asked
  pub by : words ≡ words_of asked
  pub content : Nodes
  pub says : Says bytes content
  pub written : IsWritten asked bytes content out

-- the bytes are a text that the grammar does not derive
abbrev pub AreNoDocument : List ℕ → Type 0
AreNoDocument bytes = IsUtf8 bytes × ((x : Nodes) → IsDocument (chars bytes) x → ⊥)

-- what each outcome of these arguments says about the whole input, and about the bytes that the writer held and holds
abbrev pub Answered : Outcome → List (List ℕ) → List ℕ → Option (List ℕ) → Option (List ℕ) → Type 0
Answered Done words bytes held holds = (out : List ℕ) × Output words bytes (Some out) × Appends held holds out
-- a prefix of what Done would write
Answered WriteFailed words bytes held holds = (out : List ℕ) × Output words bytes (Some out) × ((n : ℕ) × (n < length out) × Appends held holds (take n out))
Answered NoValue words bytes held holds = Output words bytes None
-- the error has the faults of the bytes
Answered (Refused e) words bytes held holds = AreNoDocument bytes × Tells bytes e
Answered NotUtf8 words bytes held holds = IsUtf8 bytes → ⊥
Answered Memory words bytes held holds = Unit {0}
-- these are returned before the input is read to its end
Answered Usage words bytes held holds = ⊥
Answered ReadFailed words bytes held holds = ⊥

-- what each outcome of these arguments says about the bytes that the reader had and has left, and that the writer held and holds:
-- except for Usage, ReadFailed and Memory the whole input was read
abbrev pub Ran : Outcome → List (List ℕ) → Option (List ℕ) → Option (List ℕ) → Option (List ℕ) → Option (List ℕ) → Type 0
Ran Usage words had left held holds = Unit {0}
Ran ReadFailed words had left held holds = Unit {0}
Ran Memory words had left held holds = Unit {0}
Ran o words had left held holds = (bytes : List ℕ) × IsInput had left bytes × Answered o words bytes held holds

-- nothing is written, except with Done and WriteFailed
abbrev pub WritesNothing : Outcome → Type 0
WritesNothing Done = ⊥
WritesNothing WriteFailed = ⊥
WritesNothing _ = Unit {0}

-- what each outcome says about the flags: a read failed, the reader is at its end, a write failed
abbrev pub Flagged : Outcome → Bool → Bool → Bool → Type 0
Flagged ReadFailed read_failed ended write_failed = IsTrue read_failed
Flagged WriteFailed read_failed ended write_failed = IsTrue ended × IsTrue write_failed
Flagged Usage read_failed ended write_failed = Unit {0}
Flagged Memory read_failed ended write_failed = Unit {0}
Flagged _ read_failed ended write_failed = IsTrue ended
