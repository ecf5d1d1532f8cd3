-- The machine's state that a reader of an entry holds, and what its steps return.
use Rattle.std.specs.Prelude.{◌≡◌, ◌↔◌, Option, Some, None, Result, Ok, Err}
use Rattle.kdl_text.specs.Chars.{Text}
use Rattle.kdl_text.specs.Internal.Here.{Here}
use Rattle.kdl_entry.specs.Internal.Building.{parts_view}
use Rattle.kdl_entry.specs.Internal.Counted.{InOrder, Recounted}
use Rattle.kdl_entry.specs.Internal.EntryMachine as machine
use Rattle.kdl_entry.specs.Internal.EntryMachine.{AnswersEntry, Runs, under, word, done}
use Rattle.kdl_value.specs.Tree.{text_of}
use Rattle.kdl_entry.specs.Tree.{entry_tree}
use Rattle.kdl_entry.specs.Tree as tree
use Rattle.kdl_entry.specs.declared.entry.KdlEntry.{KdlEntry}
use Rattle.kdl_entry.specs.declared.parsing.entries.State.{State}
use Rattle.kdl_entry.specs.declared.parsing.entries.State.TheVariants.{Start, Dropping, Under, Pending, Done}
use Rattle.kdl_entry.specs.declared.parsing.entries.PendingWord.{PendingWord}
use Rattle.kdl_syntax.specs.declared.lexer.LexFailure.{LexFailure}
use Rattle.kdl_syntax.specs.declared.lexer.LexFailure.TheVariants.{Faulty, Memory}

-- a string that may be a key, as characters
abbrev pub word_view : PendingWord → machine.Word
word_view w = record { leading = text_of w.leading; value = text_of w.value; repr = w.repr; span = w.span }

-- the machine's state that the reader's state represents
abbrev pub state_view : State → machine.State
state_view Start = machine.ahead
state_view (Dropping p) = machine.dropping p
state_view (Under p it) = under p (parts_view it)
state_view (Pending w) = word (word_view w) w.end.rest
state_view (Done e from) = done (entry_tree e) from.rest

-- the current place is in the text t, and began before s
abbrev pub Stands : Text → machine.State → Text → Type 0
Stands t (under p it) s = InOrder t it.from s
Stands t (word w from) s = InOrder t from s
Stands t (done e from) s = InOrder t from s
Stands t _ s = Unit {0}

-- what a step did, by the machine's; an allocation failure says nothing
abbrev pub Stepped : Option machine.State → Result State LexFailure → Type 0
Stepped o (Ok st) = o ≡ Some (state_view st)
Stepped o (Err Faulty) = o ≡ None
Stepped o (Err Memory) = Unit {0}

-- a step at a token, given the machine's result o: the cursor is the same but for its count
pub record Takes (o : Option machine.State) (result : Result State LexFailure) (old new : Here) : Type 0 where
  pub did : Stepped o result
  pub same : Recounted old new

-- what is read at the end of the text: the entry, or none yet
abbrev pub Ended : Option tree.Entry → Option KdlEntry → Type 0
Ended o None = o ≡ None
Ended o (Some e) = o ≡ Some (entry_tree e)

-- the machine's result on a text; an allocation failure says nothing
abbrev pub AnswersEntryText : Text → Result KdlEntry LexFailure → Type 0
AnswersEntryText t (Ok e) = AnswersEntry t (entry_tree e)
AnswersEntryText t (Err Faulty) = (e : tree.Entry) → AnswersEntry t e → ⊥
AnswersEntryText t (Err Memory) = Unit {0}

-- the machine returns from here on what it returns on the whole text
abbrev pub Same : machine.State → Text → Text → Type 0
Same st s t = (e : tree.Entry) → Runs t e st s ↔ AnswersEntry t e
