-- The machine that reads a text that is one entry: it reads the tokens once. The token k is in the text s before r, in the text `whole`.
-- The control says which token may come. The start of a place is kept as the text from there on; of a slashdashed entry only the phase is kept.
use Rattle.std.specs.Prelude.{◌≡◌, [], Option, Some, None, option_map}
use Rattle.kdl_syntax.specs.declared.control.Phase.{Phase}
use Rattle.kdl_syntax.specs.declared.entry_control.EntryControl.TheVariants as control
use Rattle.kdl_syntax.specs.declared.entry_control.EntryControl.{EntryControl}
use Rattle.kdl_syntax.specs.EntryControl.{entry_step}
use Rattle.kdl_text.specs.Chars.{Text}
use Rattle.kdl_text.specs.declared.span.SourceSpan.{SourceSpan}
use Rattle.kdl_value.specs.Data.{Value, text}
use Rattle.kdl_entry.specs.Internal.Parts.{entry_at, KeyParts, TypeParts, Parts, taken, key_given, type_given}
use Rattle.kdl_entry.specs.Places.{span_of, between}
use Rattle.kdl_syntax.specs.Tokens.{Token, string, value, BeginsToken}
use Rattle.kdl_entry.specs.Tree.{Identifier, EntryFormat, Entry, no_span, plain_identifier}

-- a string that may still be a key: what comes before it, what it represents, its spelling, and its span
pub record Word : Type 0 where
  pub leading : Text
  pub value : Text
  pub repr : Text
  pub span : SourceSpan

-- before the entry, after only line-spaces; in or after a slashdashed entry;
-- in an entry that has a type or a key; after a string that may be a key; after the entry
pub data State : Type 0 where
  ahead : State
  dropping : Phase → State
  under : Phase → Parts → State
  word : Word → Text → State
  done : Entry → Text → State

-- the control at a state
abbrev pub phase_of : State → EntryControl
phase_of ahead = control.Ahead
phase_of (dropping p) = control.Dropping p
phase_of (under p it) = control.Under p
phase_of (word w from) = control.Word
phase_of (done e from) = control.Done

-- an entry being read, after the `(` of its type, which is in s before r
abbrev pub opened_parts : Text → Text → Text → Parts
opened_parts s leading r = record { leading = leading; start = s; from = r; key = None; name = plain_identifier []; before = []; after = [] }

-- an entry being read, after the `=` that follows its key and this text
abbrev pub keyed_parts : Text → Text → Identifier → Text → Text → Parts
keyed_parts start leading name before r = record { leading = leading; start = start; from = r; key = None; name = name; before = before; after = [] }

-- the string that is in s before r
abbrev pub word_at : Text → Text → Text → Text → Word
word_at whole v s r = record { leading = between whole s; value = v; repr = between s r; span = span_of whole s r }

-- the word as a key
abbrev pub word_identifier : Word → Identifier
word_identifier w = record { value = w.value; repr = Some w.repr; span = w.span }

-- the entry, whose span is not known yet
abbrev pub entry_by : Text → Option KeyParts → Option TypeParts → Value → Text → Entry
entry_by leading k y v repr = entry_at no_span leading k y v repr

-- the word as an argument
abbrev pub argument_of : Word → Entry
argument_of w = entry_by w.leading None None (text w.value) w.repr

-- the entry whose value is in s before r, in the phase
abbrev pub valued : Phase → Parts → Value → Text → Text → Entry
valued p it v s r = entry_by it.leading (key_given p it s) (type_given p it s) v (between s r)

-- the state after a token before the entry, where the control goes to c
abbrev pub begin_to : Text → EntryControl → Token → Text → Text → Option State
begin_to whole control.Ahead k s r = Some ahead
begin_to whole (control.Dropping p) k s r = Some (dropping p)
begin_to whole (control.Under p) k s r = Some (under p (opened_parts s (between whole s) r))
begin_to whole control.Word (string v) s r = Some (word (word_at whole v s r) r)
begin_to whole control.Done (value v) s r = Some (done (entry_by (between whole s) None None v (between s r)) r)
begin_to whole c k s r = None

-- the value that a token is
abbrev pub value_of : Token → Option Value
value_of (string v) = Some (text v)
value_of (value v) = Some v
value_of k = None

-- the state after the value of the entry
abbrev pub value_to : Phase → Parts → Token → Text → Text → Option State
value_to p it k s r = option_map (λ v. done (valued p it v s r) r) (value_of k)

-- the state after a token in the entry, where the control goes to c
abbrev pub under_to : Text → Phase → Parts → EntryControl → Token → Text → Text → Option State
under_to whole p it (control.Under q) k s r = Some (under q (taken p whole it k s r))
under_to whole p it c k s r = value_to p it k s r

-- the state after a token that follows a string that may be a key, where the control goes to c
abbrev pub word_to : Text → Word → Text → EntryControl → Text → Text → State
word_to whole w from control.Word s r = word w from
word_to whole w from (control.Under p) s r = under p (keyed_parts whole w.leading (word_identifier w) (between from s) r)
word_to whole w from c s r = done (argument_of w) from

-- the state after a token, where the control goes to c
abbrev pub go_to : Text → State → EntryControl → Token → Text → Text → Option State
go_to whole ahead c k s r = begin_to whole c k s r
go_to whole (dropping p) c k s r = begin_to whole c k s r
go_to whole (under p it) c k s r = under_to whole p it c k s r
go_to whole (word w from) c k s r = Some (word_to whole w from c s r)
go_to whole (done e from) c k s r = Some (done e from)

-- the state after a token, by the control; none if the token may not come
abbrev pub if_taken : Option EntryControl → (EntryControl → Option State) → Option State
if_taken None f = None
if_taken (Some c) f = f c

-- the token k is in s before r, in the text `whole`
abbrev pub step : Text → State → Token → Text → Text → Option State
step whole st k s r = if_taken (entry_step (phase_of st) k) (λ c. go_to whole st c k s r)

-- the format with that trailing text
abbrev pub with_trailing : Text → EntryFormat → EntryFormat
with_trailing p f = record f { trailing = p }

-- the entry, whose span is the whole text, with the text after it
abbrev pub ended : Text → Text → Entry → Entry
ended whole p e = record e { format = option_map (with_trailing p) e.format; span = span_of whole whole [] }

-- what the machine returns at the end of the text
abbrev pub finish : Text → State → Option Entry
finish whole (word w from) = Some (ended whole (between from []) (argument_of w))
finish whole (done e from) = Some (ended whole (between from []) e)
finish whole _ = None

-- from the state on, the text is read to its end, and the result is e
pub data Runs (whole : Text) (e : Entry) : State → Text → Type 0 where
  stops : {st : State} → finish whole st ≡ Some e → Runs whole e st []
  reads : {st st' : State} {s r : Text} {k : Token} → BeginsToken s k r → step whole st k s r ≡ Some st' → Runs whole e st' r → Runs whole e st s

-- the machine's result on a text
abbrev pub AnswersEntry : Text → Entry → Type 0
AnswersEntry t e = Runs t e ahead t
