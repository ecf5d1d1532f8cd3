-- What can be seen of a run.
use Rattle.std.specs.Prelude.{◌≡◌, ◌++◌, Bool, IsUtf8, List, codes, if◌then◌else◌, true, ℕ}
use Rattle.std.specs.Str.{bytes_eq}
use Rattle.kdl_report.specs.Shown.{shown_bytes}
use Rattle.watched.specs.Streams.{Gets, Stream}
use Rattle.cli_world.specs.Files.{Files, Has, Kept}
use Rattle.cli_world.specs.declared.world.Unread.{Unread}
use Rattle.cli_world.specs.declared.world.Unread.TheVariants.{Lost, NotUtf8}

-- the bytes of the files, which of them may fail to be read or replaced, the output, and standard error
pub record Seen : Type 0 where
  pub files : Files
  pub may_fail : List ℕ → Bool
  pub out : Stream
  pub err : Stream

-- the files are as they were
abbrev pub FilesStay : Seen → Seen → Type 0
FilesStay old new = Kept old.files new.files × (new.may_fail ≡ old.may_fail)

-- the name that a file has in reports
abbrev pub shown_name : List ℕ → List ℕ
shown_name name = if bytes_eq name (codes "-") then codes "<stdin>" else name

-- the line on what is wrong with a file
abbrev pub problem : List ℕ → List ℕ → List ℕ
problem name what = codes "kdl: " ++ shown_bytes (shown_name name) ++ codes ": " ++ what ++ codes "\n"

-- the line on what is wrong with the command line
abbrev pub complaint : List ℕ → List ℕ
complaint why = codes "kdl: " ++ why ++ codes "\n"

-- standard error is given the text, and nothing else changes
pub record Reports (text : List ℕ) (old new : Seen) : Type 0 where
  pub err : Gets text old.err new.err
  pub out : new.out ≡ old.out
  pub files : FilesStay old new

-- a file was not read or not replaced, which is reported
pub record IsLost (name : List ℕ) (old new : Seen) : Type 0 where
  pub may_fail : old.may_fail name ≡ true
  pub why : List ℕ
  pub reports : Reports (problem name why) old new

-- a file has no text: it is not UTF-8, or it was not read
abbrev pub IsUnread : List ℕ → Seen → Seen → Unread → Type 0
IsUnread name old new (NotUtf8 bytes) = (new ≡ old) × Has old.files name bytes.items × (IsUtf8 bytes.items → ⊥)
IsUnread name old new Lost = IsLost name old new
