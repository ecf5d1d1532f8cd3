-- What the result of the machine of entries says of the grammar.
use Rattle.std.proofs.Common.{◌≡◌, true}
use Rattle.kdl_text.specs.Chars.{Text}
use Rattle.kdl_entry.specs.Data as data'
use Rattle.kdl_entry.specs.Entries.{IsEntryText}
use Rattle.kdl_entry.specs.Internal.EntryMachine.{AnswersEntry}
use Rattle.kdl_entry.specs.Laid.{LaidEntryText}
use Rattle.kdl_entry.specs.Print.{print_entry}
use Rattle.kdl_entry.specs.Tree.{Entry, entry_data}
use Rattle.kdl_entry.proofs.Reading.EntryComplete.{built}
use Rattle.kdl_entry.proofs.Reading.EntryLaws.{read}
use Rattle.kdl_entry.proofs.Laying.LaidPrints.{entry_text_printed}
use Rattle.kdl_entry.proofs.Laying.TextUnique.{one_entry}

pub found : (t : Text) (e : Entry) → AnswersEntry t e → IsEntryText t (entry_data e)
found t e a = (read t e a).derived

pub only : (t : Text) (e : Entry) → AnswersEntry t e → (x : data'.Entry) → IsEntryText t x → x ≡ entry_data e
only t e a x i = one_entry true t x (entry_data e) i (found t e a)

pub laid : (t : Text) (e : Entry) → AnswersEntry t e → LaidEntryText t e
laid t e a = (read t e a).laid

pub prints : (t : Text) (e : Entry) → AnswersEntry t e → print_entry e ≡ t
prints t e a = entry_text_printed true t e (laid t e a)

pub refused : (t : Text) → ((e : Entry) → AnswersEntry t e → ⊥) → (x : data'.Entry) → IsEntryText t x → ⊥
refused t n x i = let b = built i in n b.tree b.answers
