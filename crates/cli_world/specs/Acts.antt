-- What a run does with files, from what is to be done with the text of each.
use Rattle.std.specs.Prelude.{◌≡◌, ◌++◌, ◌∷◌, [], IsUtf8, List, codes, ℕ}
use Rattle.watched.specs.Streams.{Gets, IsCut}
use Rattle.cli_world.specs.Files.{Has, Replaced}
use Rattle.cli_world.specs.Seen.{FilesStay, IsLost, Reports, Seen, problem}
use Rattle.cli_world.specs.Statuses.{code_of}
use Rattle.cli_world.specs.Tallies.{plain, worst}
use Rattle.cli_world.specs.declared.status.Status.{Status}
use Rattle.cli_world.specs.declared.status.Status.TheVariants.{Done, Failed}
use Rattle.cli_world.specs.declared.tally.Tally.{Tally}

-- what is to be done with a text: these bytes are printed or reported, or are those of the file from then on; with the status and the count
pub data Effect : Type 0 where
  prints : List ℕ → Tally → Effect
  reports : List ℕ → Status → Effect
  replaces : List ℕ → Effect

-- the status and the count of an effect that takes place
abbrev pub tally_of : Effect → Tally
tally_of (prints bytes t) = t
tally_of (reports text s) = plain s
tally_of (replaces bytes) = plain Done

-- the bytes are on the output, unless no one reads it, and nothing else changes
pub record Prints (bytes : List ℕ) (old new : Seen) : Type 0 where
  pub out : Gets bytes old.out new.out
  pub err : new.err ≡ old.err
  pub files : FilesStay old new

-- the bytes are those of the file, and nothing else changes
pub record Replaces (name bytes : List ℕ) (old new : Seen) : Type 0 where
  pub files : Replaced name bytes old.files new.files
  pub may_fail : new.may_fail ≡ old.may_fail
  pub out : new.out ≡ old.out
  pub err : new.err ≡ old.err

-- the name of the output in reports
abbrev pub output : List ℕ
output = codes "standard output"

-- a write to the output failed, which is reported
pub record IsUnprinted (bytes : List ℕ) (old new : Seen) : Type 0 where
  pub out : IsCut bytes old.out new.out
  pub why : List ℕ
  pub err : Gets (problem output why) old.err new.err
  pub files : FilesStay old new

-- an effect takes place, or fails
pub data Happens (name : List ℕ) (old new : Seen) : Effect → Tally → Type 0 where
  printed : {bytes : List ℕ} {t : Tally} → Prints bytes old new → Happens name old new (prints bytes t) t
  unprinted : {bytes : List ℕ} {t : Tally} → IsUnprinted bytes old new → Happens name old new (prints bytes t) (plain Failed)
  reported : {text : List ℕ} {s : Status} → Reports text old new → Happens name old new (reports text s) (plain s)
  replaced : {bytes : List ℕ} → Replaces name bytes old new → Happens name old new (replaces bytes) (plain Done)
  unreplaced : {bytes : List ℕ} → IsLost name old new → Happens name old new (replaces bytes) (plain Failed)

-- one of these effects takes place, or memory runs out, which is reported
pub data Does (P : Effect → Type 0) (name : List ℕ) (old new : Seen) : Tally → Type 0 where
  does : {e : Effect} {t : Tally} → P e → Happens name old new e t → Does P name old new t
  memory : Reports (problem name (codes "out of memory")) old new → Does P name old new (plain Failed)

-- what is to be done with the text of a file is done, or what is to be done with bytes that are not UTF-8, or the file was not read
pub data Acts (act not_utf8 : List ℕ → Effect → Type 0) (name : List ℕ) (old new : Seen) : Tally → Type 0 where
  acts : {text : List ℕ} {t : Tally} → Has old.files name text → IsUtf8 text → Does (act text) name old new t → Acts act not_utf8 name old new t
  refuses : {bytes : List ℕ} {t : Tally} → Has old.files name bytes → (IsUtf8 bytes → ⊥) → Does (not_utf8 bytes) name old new t → Acts act not_utf8 name old new t
  lost : IsLost name old new → Acts act not_utf8 name old new (plain Failed)

-- files are acted on one after another
pub data Each (act : List ℕ → Seen → Seen → Tally → Type 0) : List (List ℕ) → Seen → Seen → List Tally → Type 0 where
  none : {s : Seen} → Each act [] s s []
  more : {names : List (List ℕ)} {ts : List Tally} {name : List ℕ} {t : Tally} {old mid new : Seen}
      → Each act names old mid ts → act name mid new t → Each act (names ++ (name ∷ [])) old new (ts ++ (t ∷ []))

-- files are acted on one after another, and the status is the worst of theirs
abbrev pub InTurn : (List ℕ → Seen → Seen → Tally → Type 0) → List (List ℕ) → Seen → Seen → Status → Type 0
InTurn act names old new status = (ts : List Tally) × Each act names old new ts × (code_of status ≡ worst ts)
