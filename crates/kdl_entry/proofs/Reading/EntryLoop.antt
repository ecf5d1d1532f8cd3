-- The turns of the loop that reads an entry text, token by token.
use Rattle.std.proofs.Common.{◌≡◌, ◌↔◌, ◌+◌, ◌<◌, length, [], ◌∷◌, ◌++◌, Option, Some, None, option_map, Ok, Err, refl, sym, subst, ◌∙◌, arith}
use Rattle.kdl_text.specs.Chars.{Text, Star, plus}
use Rattle.kdl_text.specs.Chars.Star.{none as no_star, more}
use Rattle.kdl_text.specs.Internal.Here.{Here}
use Rattle.kdl_text.specs.Internal.Reading.{Moves}
use Rattle.kdl_text.specs.Trivia.{NodeSpace}
use Rattle.kdl_syntax.specs.declared.control.{Spot.TheVariants.Fresh, Spot.TheVariants.Spaced, Phase.Phase}
use Rattle.kdl_syntax.specs.declared.control.Phase.TheVariants.{TypeOpen, TypeName, InNode, Property}
use Rattle.kdl_syntax.specs.declared.entry_control.EntryControl.TheVariants as control
use Rattle.kdl_syntax.specs.EntryControl.{entry_step}
use Rattle.kdl_syntax.specs.declared.entry_control.EntryControl.{EntryControl}
use Rattle.kdl_entry.specs.Internal.EntryMachine.{Word, State, ahead, dropping, under, word, done, phase_of, valued, begin_to, value_of, under_to, word_to, go_to, if_taken, step, finish, Runs, stops, reads}
use Rattle.kdl_entry.specs.Internal.Counted.{EndsIn, InOrder, Recounted}
use Rattle.kdl_entry.specs.Internal.EntryReading.{AnswersEntryText, Ended, Same, Stands, Stepped}
use Rattle.kdl_value.specs.Data.{Value}
use Rattle.kdl_syntax.specs.Internal.Handed.{Cuts, one, spaces, HandsOut, Lexed, kind_view}
use Rattle.kdl_entry.specs.Internal.Parts.{Parts, taken}
use Rattle.kdl_syntax.specs.Tokens.{Token, space, string, value, left, right, BeginsToken, t_space, NoToken}
use Rattle.kdl_entry.specs.Tree.{Entry, entry_tree}
use Rattle.kdl_entry.specs.declared.entry.KdlEntry.{KdlEntry}
use Rattle.kdl_syntax.specs.declared.lexer.LexFailure.{LexFailure}
use Rattle.kdl_syntax.specs.declared.lexer.LexFailure.TheVariants.{Faulty, Memory}
use Rattle.kdl_syntax.specs.declared.lexer.Token.{Token as CodeToken}
use Rattle.kdl_syntax.proofs.Lexing.TokenUnique.{no_token, token_shorter}
use Rattle.kdl_entry.proofs.Reading.EntryLaws.{goes_on}
use Rattle.kdl_entry.proofs.Slicing.Between.{in_order_here, in_order_on, then_ends}

module _ (whole : Text) where
  -- the place of a space does not matter
  anywhere : (st : State) (s r t q : Text) → step whole st space s r ≡ step whole st space t q
  anywhere ahead s r t q = refl
  anywhere (dropping (InNode (Spaced b))) s r t q = refl
  anywhere (dropping p) s r t q = refl
  anywhere (under (InNode p) it) s r t q = refl
  anywhere (under p it) s r t q = refl
  anywhere (word w f) s r t q = refl
  anywhere (done e f) s r t q = refl

  to_same : (x st' : State) (t q : Text) → Some x ≡ Some st' → step whole x space t q ≡ Some x → step whole st' space t q ≡ Some st'
  to_same x st' t q e f = let y : x ≡ st' = cc in subst (λ (z : State). step whole z space t q ≡ Some z) y f

  -- and a space more changes nothing
  again : (st st' : State) (s r t q : Text) → step whole st space s r ≡ Some st' → step whole st' space t q ≡ Some st'
  again ahead st' s r t q e = to_same ahead st' t q e refl
  again (dropping (InNode (Fresh b))) st' s r t q e = to_same (dropping (InNode (Spaced b))) st' t q e refl
  again (dropping p) st' s r t q e = to_same (dropping p) st' t q e refl
  again (under (InNode p) it) st' s r t q e = absurd cc
  again (under p it) st' s r t q e = to_same (under p it) st' t q e refl
  again (word w f) st' s r t q e = to_same (word w f) st' t q e refl
  again (done x f) st' s r t q e = to_same (done x f) st' t q e refl

  read_one : (d : Entry) (st st' : State) (s r : Text) (k : Token) → BeginsToken s k r → step whole st k s r ≡ Some st' → Runs whole d st' r ↔ Runs whole d st s
  read_one d st st' s r k t e = (λ a. reads t e a, λ a. let g = goes_on t a in let u : g.0 ≡ st' = (let v = g.1 in cc) in subst (λ (z : State). Runs whole d z r) u g.2)

  read_spaces : (d : Entry) (st : State) (s r : Text) → ((t q : Text) → step whole st space t q ≡ Some st) → Star NodeSpace s r → Runs whole d st r ↔ Runs whole d st s
  read_spaces d st s r e no_star = (λ a. a, λ a. a)
  read_spaces d st s r e (more {t = t} n m) =
      let x = read_one d st st s t space (t_space n) (e s t) in
      let y = read_spaces d st t r e m in
      (λ a. x.0 (y.0 a), λ a. y.1 (x.1 a))

  -- what a token does
  read_cut : (d : Entry) (st st' : State) (s r : Text) (k : Token) → Cuts s k r → step whole st k s r ≡ Some st' → Runs whole d st' r ↔ Runs whole d st s
  read_cut d st st' s r k (one t) e = read_one d st st' s r k t e
  read_cut d st st' s r k (spaces (plus {t = t} n m)) e =
      let x = read_one d st st' s t space (t_space n) (anywhere st s t s r ∙ e) in
      let y = read_spaces d st' t r (λ q w. again st st' s r q w e) m in
      (λ a. x.0 (y.0 a), λ a. y.1 (x.1 a))

  -- a token that the machine refuses
  refuses : (d : Entry) (st : State) (s r : Text) (k : Token) → Cuts s k r → step whole st k s r ≡ None → Runs whole d st s → ⊥
  refuses d st s r k (one t) e a = let g = goes_on t a in let u = g.1 in cc
  refuses d st s r k (spaces (plus {t = t} n m)) e a = let g = goes_on (t_space n) a in let u = g.1 in let v = anywhere st s t s r in cc

  faults : (d : Entry) (st : State) (s : Text) → NoToken s → Runs whole d st s → ⊥
  faults d st s n (stops e) = n.begun refl
  faults d st s n (reads t e a) = n.none _ _ t

  at_stop : (d : Entry) (st : State) → Runs whole d st [] ↔ (finish whole st ≡ Some d)
  at_stop d st = (λ a. go a refl, λ e. stops e)
    where
      go : {s : Text} → Runs whole d st s → s ≡ [] → finish whole st ≡ Some d
      go (stops e) q = e
      go (reads {r = r} {k = k} t e a) q = absurd (no_token (subst (λ (z : Text). BeginsToken z k r) q t))

-- a step leaves the place under way where it began, or begins it after the token
module _ (whole s r : Text) (w : EndsIn whole s) (b : EndsIn s r) where
  to : (x y : State) → Some x ≡ Some y → Stands whole x r → Stands whole y r
  to x y e a = let q : x ≡ y = cc in subst (λ (z : State). Stands whole z r) q a

  ends_here : InOrder whole r r
  ends_here = in_order_here (then_ends w b)

  begin_stands : (c : EntryControl) (st : State) (k : Token) → begin_to whole c k s r ≡ Some st → Stands whole st r
  begin_stands control.Ahead st k e = to ahead st e tt
  begin_stands (control.Dropping p) st k e = to (dropping p) st e tt
  begin_stands (control.Under p) st k e = to _ st e ends_here
  begin_stands control.Word st (string v) e = to _ st e ends_here
  begin_stands control.Done st (value v) e = to _ st e ends_here
  begin_stands _ st k e = absurd cc

  item_stands : (p : Phase) (it : Parts) (k : Token) → InOrder whole it.from s → InOrder whole (taken p whole it k s r).from r
  item_stands (TypeOpen c) it (string v) a = ends_here
  item_stands (TypeName c) it right a = ends_here
  item_stands Property it left a = ends_here
  item_stands p it k a = in_order_on a b

  value_stands : (p : Phase) (it : Parts) (o : Option Value) (st : State) → option_map (λ v. done (valued p it v s r) r) o ≡ Some st → Stands whole st r
  value_stands p it None st e = absurd cc
  value_stands p it (Some v) st e = to _ st e ends_here

  under_stands : (p : Phase) (it : Parts) (c : EntryControl) (k : Token) (st : State) → under_to whole p it c k s r ≡ Some st → InOrder whole it.from s → Stands whole st r
  under_stands p it (control.Under q) k st e a = to _ st e (item_stands p it k a)
  under_stands p it c k st e a = value_stands p it (value_of k) st e

  word_stands : (w : Word) (f : Text) (c : EntryControl) → InOrder whole f s → Stands whole (word_to whole w f c s r) r
  word_stands w f control.Word a = in_order_on a b
  word_stands w f (control.Under p) a = ends_here
  word_stands w f c a = in_order_on a b

  go_stands : (x st : State) (c : EntryControl) (k : Token) → go_to whole x c k s r ≡ Some st → Stands whole x s → Stands whole st r
  go_stands ahead st c k e a = begin_stands c st k e
  go_stands (dropping p) st c k e a = begin_stands c st k e
  go_stands (under p it) st c k e a = under_stands p it c k st e a
  go_stands (word w f) st c k e a = to _ st e (word_stands w f c a)
  go_stands (done x f) st c k e a = to (done x f) st e (in_order_on a b)

  step_stands : (x st : State) (k : Token) → step whole x k s r ≡ Some st → Stands whole x s → Stands whole st r
  step_stands x st k e a = go (entry_step (phase_of x) k) e
    where
      go : (o : Option EntryControl) → if_taken o (λ c. go_to whole x c k s r) ≡ Some st → Stands whole st r
      go None e = absurd cc
      go (Some c) e = go_stands x st c k e a

-- the lexer is in the text, and the machine goes on from here as from the start
pub record Going (st : State) (here : Here) (t : Text) : Type 0 where
  pub same : Same st here.rest t
  pub from : Stands t st here.rest
  pub text : EndsIn t here.rest

pub starts_going : (t : Text) (here : Here) → here.rest ≡ t → Going ahead here t
starts_going t here e = record { same = λ d. rw e (λ a. a, λ a. a); from = tt; text = ([], sym e) }

-- the text that is read is w, which is t
pub next_going : (st st' : State) (old mid : Here) (w t : Text) (k : CodeToken) → w ≡ t → Going st old t → HandsOut old k mid → Moves old mid
    → step w st (kind_view k.kind) k.at.start.rest k.at.end.rest ≡ Some st' → Going st' mid t
next_going st st' old mid w t k i g h m e =
    let e' : step t st (kind_view k.kind) old.rest mid.rest ≡ Some st' = rw (i, h.start_rest, h.end_rest) at e in
    let piece : EndsIn old.rest mid.rest = m.piece in
    record {
      same = λ d. let a = read_cut t d st st' old.rest mid.rest (kind_view k.kind) h.cuts e' in let b = g.same d in (λ x. b.0 (a.0 x), λ x. a.1 (b.1 x));
      from = step_stands t old.rest mid.rest g.text piece st st' (kind_view k.kind) e' g.from;
      text = then_ends g.text piece;
    }

-- slices leave the lexer where it is
pub recounted : (st : State) (old new : Here) (t : Text) → Recounted old new → Going st old t → Going st new t
recounted st old new t r g = record { same = λ d. rw r.rest (g.same d); from = rw r.rest g.from; text = rw r.rest g.text }

-- what a step asks of the places
pub whole_start : (st : State) (old mid : Here) (w t : Text) (k : CodeToken) → w ≡ t → Going st old t → HandsOut old k mid → EndsIn w k.at.start.rest
whole_start st old mid w t k i g h = rw (i, h.start_rest) g.text

pub from_start : (st : State) (old mid : Here) (w t : Text) (k : CodeToken) → w ≡ t → Going st old t → HandsOut old k mid → Stands w st k.at.start.rest
from_start st old mid w t k i g h = rw (i, h.start_rest) g.from

-- the lexer's failure, and that of a step
pub lexer_told : (st : State) (old new : Here) (t : Text) (e : LexFailure) → Going st old t → Lexed old (Err e) new → AnswersEntryText t (Err e)
lexer_told st old new t Faulty g x = λ d a. faults t d st old.rest x ((g.same d).1 a)
lexer_told st old new t Memory g x = tt

pub take_told : (st : State) (old mid : Here) (w t : Text) (k : CodeToken) (e : LexFailure) → w ≡ t → Going st old t → HandsOut old k mid → Stepped (step w st (kind_view k.kind) k.at.start.rest k.at.end.rest) (Err e) → AnswersEntryText t (Err e)
take_told st old mid w t k Faulty i g h x =
    let x' : step t st (kind_view k.kind) old.rest mid.rest ≡ None = rw (i, h.start_rest, h.end_rest) at x in
    λ d a. refuses t d st old.rest mid.rest (kind_view k.kind) h.cuts x' ((g.same d).1 a)
take_told st old mid w t k Memory i g h x = tt

-- a turn comes nearer to the end
spaces_shorter : {s r : Text} → Star NodeSpace s r → length r < length s + 1
spaces_shorter no_star = omega arith
spaces_shorter (more n m) = omega (arith, token_shorter (t_space n), spaces_shorter m)

cut_shorter : {s r : Text} {k : Token} → Cuts s k r → length r < length s
cut_shorter (one t) = token_shorter t
cut_shorter (spaces (plus n m)) = omega (arith, token_shorter (t_space n), spaces_shorter m)

pub nearer : (old mid : Here) (k : CodeToken) → HandsOut old k mid → length mid.rest < length old.rest
nearer old mid k h = cut_shorter h.cuts

nothing_left : (p r : Text) → [] ≡ p ++ r → r ≡ []
nothing_left [] r e = sym e
nothing_left (c ∷ p) r e = cc

pub all_read : (old new : Here) → old.rest ≡ [] → Moves old new → new.rest ≡ []
all_read old new e m = nothing_left m.piece.0 new.rest (sym e ∙ m.piece.1)

pub from_end : (st : State) (old new : Here) (w t : Text) → w ≡ t → Going st old t → old.rest ≡ [] → Moves old new → Stands w st new.rest
from_end st old new w t i g e m = rw (i, all_read old new e m) (rw e at g.from)

-- where the text ends, the machine's entry is the result, or there is none
pub at_the_end : (st : State) (here : Here) (w t : Text) (e : KdlEntry) → w ≡ t → Going st here t → here.rest ≡ [] → Ended (finish w st) (Some e) → AnswersEntryText t (Ok e)
at_the_end st here w t e i g x f' =
    let f : Ended (finish t st) (Some e) = subst (λ (z : Text). Ended (finish z st) (Some e)) i f' in (g.same (entry_tree e)).0 (subst (λ (z : Text). Runs t (entry_tree e) st z) (sym x) ((at_stop t (entry_tree e) st).1 f))

pub no_end : (st : State) (old : Here) (w t : Text) → w ≡ t → Going st old t → old.rest ≡ [] → Ended (finish w st) None → AnswersEntryText t (Err Faulty)
no_end st old w t i g x f d a =
    let f' : finish t st ≡ None = rw i at f in
    let b = (at_stop t d st).0 (subst (λ (z : Text). Runs t d st z) x ((g.same d).1 a)) in
    cc
