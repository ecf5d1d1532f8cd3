-- The laws of the machine of entries, put together.
use Rattle.std.proofs.Common.{◌≡◌, Some, sym, subst, ap, ◌∙◌}
use Rattle.kdl_text.specs.Chars.{Text}
use Rattle.kdl_entry.specs.Data as data'
use Rattle.kdl_entry.specs.Entries.{IsEntryText}
use Rattle.kdl_entry.specs.Internal.EntryMachine.{State, step, Runs, stops, reads, AnswersEntry}
use Rattle.kdl_entry.specs.Laid.{LaidEntryText}
use Rattle.kdl_entry.specs.Internal.MachineLaws.{OneEntryAnswer, EntryAnswers}
use Rattle.kdl_syntax.specs.Tokens.{Token, BeginsToken}
use Rattle.kdl_entry.specs.Tree.{Entry, entry_data}
use Rattle.kdl_syntax.proofs.Lexing.TokenUnique.{token_det, no_token}
use Rattle.kdl_entry.proofs.Reading.EntryComplete.{built}
use Rattle.kdl_entry.proofs.Reading.EntrySound.{derived}

-- a run at a text that begins with a token goes on after it
pub goes_on : {whole : Text} {e : Entry} {st : State} {s r : Text} {k : Token} → BeginsToken s k r → Runs whole e st s → (st' : State) × (step whole st k s r ≡ Some st') × Runs whole e st' r
goes_on t (stops x) = absurd (no_token t)
goes_on {whole = whole} {e = e} {st = st} {s = s} {r = r} {k = k} t (reads {st' = st'} {r = r'} {k = j} u x a) =
    let same = token_det u t in
    let x' : step whole st k s r ≡ Some st' = subst (λ (z : Text). step whole st k s z ≡ Some st') same.0 (subst (λ (i : Token). step whole st i s r' ≡ Some st') same.1 x) in
    (st', x', subst (λ (z : Text). Runs whole e st' z) same.0 a)

pub runs_det : {whole : Text} {x y : Entry} {st : State} {s : Text} → Runs whole x st s → Runs whole y st s → x ≡ y
runs_det (stops e) (stops f) = cc
runs_det (stops e) (reads t f b) = absurd (no_token t)
runs_det {whole = whole} {y = y} (reads {st' = st'} {r = r} t e a) b = let g = goes_on t b in let u : g.0 ≡ st' = (let v = g.1 in cc) in runs_det a (subst (λ (z : State). Runs whole y z r) u g.2)

pub one_entry_answer : OneEntryAnswer
one_entry_answer t d e a b = runs_det a b

pub record Read (t : Text) (e : Entry) : Type 0 where
  pub derived : IsEntryText t (entry_data e)
  pub laid : LaidEntryText t e

pub read : (t : Text) (e : Entry) → AnswersEntry t e → Read t e
read t e a =
    let d = derived t e a in
    let b = built d.1 in
    let same : b.tree ≡ e = runs_det b.answers a in
    record {
      derived = subst (λ (z : data'.Entry). IsEntryText t z) (sym b.same ∙ ap entry_data same) d.1;
      laid = subst (λ (z : Entry). LaidEntryText t z) same b.laid;
    }

pub entry_answers : EntryAnswers
entry_answers =
    (λ t x. (λ i. (let b = built i in (b.tree, b.answers, b.same)), λ d. subst (λ (z : data'.Entry). IsEntryText t z) d.2 (read t d.0 d.1).derived), λ t e a. (read t e a).laid)
