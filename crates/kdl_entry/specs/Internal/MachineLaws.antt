-- What is proved of the machine that reads entry texts.
use Rattle.std.specs.Prelude.{◌≡◌, ◌↔◌}
use Rattle.kdl_text.specs.Chars.{Text}
use Rattle.kdl_entry.specs.Data as data'
use Rattle.kdl_entry.specs.Entries.{IsEntryText}
use Rattle.kdl_entry.specs.Internal.EntryMachine.{AnswersEntry}
use Rattle.kdl_entry.specs.Laid.{LaidEntryText}
use Rattle.kdl_entry.specs.Tree.{Entry, entry_data}

-- it has one result at most
abbrev pub OneEntryAnswer : Type 0
OneEntryAnswer = (t : Text) (d e : Entry) → AnswersEntry t d → AnswersEntry t e → d ≡ e

-- it returns exactly if the text is an entry, with its data, and what it returns is located in the text, with its spans
abbrev pub EntryAnswers : Type 0
EntryAnswers = ((t : Text) (x : data'.Entry) → IsEntryText t x ↔ ((e : Entry) × AnswersEntry t e × (entry_data e ≡ x))) × ((t : Text) (e : Entry) → AnswersEntry t e → LaidEntryText t e)
