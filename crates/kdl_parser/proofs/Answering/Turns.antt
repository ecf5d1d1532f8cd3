-- What holds between the turns of the loop over the tokens, and what is returned in a turn.
use Rattle.std.proofs.Common.{◌≡◌, ◌↔◌, ◌+◌, ◌≤◌, [], ◌∷◌, ◌++◌, Some, Ok, Err, sym, subst, ◌∙◌, arith}
use Rattle.kdl_text.specs.Chars.{Text}
use Rattle.kdl_text.specs.Internal.Here.{Here, Position}
use Rattle.kdl_text.specs.Internal.Reading.{Moves, Costs}
use Rattle.kdl_text.specs.Spans.{bytes, raise}
use Rattle.kdl_entry.specs.Internal.Counted.{Recounted}
use Rattle.kdl_entry.proofs.Slicing.Between.{in_order_here}
use Rattle.kdl_syntax.specs.Internal.Handed.{HandsOver, Lexed, LexCosts}
use Rattle.kdl_syntax.specs.Tokens.{Token}
use Rattle.kdl_syntax.specs.declared.lexer.LexFailure.{LexFailure}
use Rattle.kdl_syntax.specs.declared.lexer.LexFailure.TheVariants.{Faulty, Memory}
use Rattle.kdl_syntax.specs.declared.token_span.TokenSpan.{TokenSpan}
use Rattle.kdl_grammar.specs.Internal.Machine.{State, initial, step, Runs, stops}
use Rattle.kdl_grammar.specs.Tree.{Node, Document}
use Rattle.kdl_parser.specs.Internal.Answered.{AnswersParts, Finished}
use Rattle.kdl_parser.specs.Internal.Building.{state_view, EndsIn, InOrder, Placed}
use Rattle.kdl_parser.specs.Internal.Counted.{unsliced, ReadOn, SlicedOn}
use Rattle.kdl_parser.specs.Internal.States.{document_now, step_at, Steps}
use Rattle.kdl_parser.specs.declared.builder.Builder.{Builder}
use Rattle.kdl_parser.specs.declared.node_parts.DocumentParts.{DocumentParts}
use Rattle.kdl_parser.proofs.Stepping.MachineSteps.{read_cut, refuses, faults, at_stop}
use Rattle.kdl_parser.proofs.Stepping.PlacesAhead.{placed_step, state_from}
use Rattle.kdl_parser.proofs.Stepping.StepsDone.{same_state}
use Rattle.kdl_parser.proofs.Stepping.TurnCost.{Counting, counting_starts, counting_goes_on, counting_ends, counting_fails}

-- between two turns the machine goes on from here as from the start, where the cursor was `old`
pub record Reading {N : Type 0} (tree : N → Node) (old : Here) (b : Builder N) : Type 0 where
  pub same : (d : Document) → Runs b.cursor.text d (state_view tree b) b.cursor.rest ↔ Runs old.text d (initial old.rest) old.rest
  pub placed : Placed b.cursor.text (state_view tree b) b.cursor.rest
  pub counting : Counting old b.cursor (unsliced b)

pub reading_starts : {N : Type 0} (tree : N → Node) (b : Builder N) → state_view tree b ≡ initial b.cursor.rest → unsliced b ≡ bytes b.cursor.rest → EndsIn b.cursor.text b.cursor.rest → Reading tree b.cursor b
reading_starts tree b e n x = record {
  same = λ d. rw e (λ a. a, λ a. a);
  placed = subst (λ (z : State). Placed b.cursor.text z b.cursor.rest) (sym e) (in_order_here x, tt);
  counting = counting_starts b.cursor (unsliced b) n;
}

-- the lexer's failure
pub lexer_told : {N : Type 0} (tree : N → Node) (old z : Here) (b : Builder N) (e : LexFailure) → Reading tree old b → Lexed b.cursor (Err e) z → AnswersParts tree old.text old.rest (Err e)
lexer_told tree old z b Faulty r x = λ d a. faults b.cursor.text d (state_view tree b) b.cursor.rest x.begun x.none ((r.same d).1 a)
lexer_told tree old z b Memory r x = tt

pub lexer_counted : (A : Type 0) {N : Type 0} (tree : N → Node) (old z : Here) (b : Builder N) (e : LexFailure) → Reading tree old b → LexCosts (Err e) b.cursor z → ReadOn {A = A} (Err e) old z.steps
lexer_counted A tree old z b Faulty r c = omega (arith, r.counting.most, c.most)
lexer_counted A tree old z b Memory r c = tt

-- the count does not fall
pub counts_on : {N : Type 0} (tree : N → Node) (old z : Here) (b : Builder N) → Reading tree old b → Moves b.cursor z → raise old.steps 0 ≤ raise z.steps 0
counts_on tree old z b r m = omega (arith, r.counting.counts, m.counts)

pub counts_after : {N : Type 0} (tree : N → Node) (old z new : Here) (b : Builder N) → Reading tree old b → Moves b.cursor z → Recounted z new → raise old.steps 0 ≤ raise new.steps 0
counts_after tree old z new b r m s = omega (arith, r.counting.counts, m.counts, s.counts)

nothing_left : (p r : Text) → [] ≡ p ++ r → r ≡ []
nothing_left [] r e = sym e
nothing_left (c ∷ p) r e = absurd cc

-- at the end of the text nothing is left
pub all_read : (before after : Here) → before.rest ≡ [] → Moves before after → after.rest ≡ []
all_read before after e m = nothing_left m.piece.0 after.rest (sym e ∙ m.piece.1)

both : {A B : Type 0} (P : A → B → Type 0) {a a' : A} {b b' : B} → a' ≡ a → b' ≡ b → P a b → P a' b'
both P e f x = rw (e, f) x

-- the builder before a turn, after the lexer at `z`, and (`new`) after its step
module _ {N : Type 0} (tree : N → Node) (old z : Here) (b : Builder N) (r : Reading tree old b) (m : Moves b.cursor z) where
  abbrev mid : Builder N
  mid = record b { cursor = z }

  state : state_view tree mid ≡ state_view tree b
  state = same_state tree b z m.same

  same : (d : Document) → Runs z.text d (state_view tree mid) b.cursor.rest ↔ Runs old.text d (initial old.rest) old.rest
  same d = both (λ (t : Text) (x : State). Runs t d x b.cursor.rest ↔ Runs old.text d (initial old.rest) old.rest) m.same state (r.same d)

  placed : Placed z.text (state_view tree mid) b.cursor.rest
  placed = both (λ (t : Text) (x : State). Placed t x b.cursor.rest) m.same state r.placed

  -- what the builder asks of the places
  pub take_placed : (k : Token) (ts : TokenSpan) → HandsOver b.cursor k ts z → Placed z.text (state_view tree mid) ts.start.rest
  take_placed k ts h = rw h.start_rest placed

  -- a token that is taken
  pub turn : (new : Builder N) (k : Token) (ts : TokenSpan) → HandsOver b.cursor k ts z → Costs 24 0 b.cursor z → Steps tree (step_at tree mid k ts) (unsliced mid + 1) mid (Ok tt) new → Reading tree old new
  turn new k ts h c x =
      let e : step z.text (state_view tree mid) k b.cursor.rest z.rest ≡ Some (state_view tree new) = rw (h.start_rest, h.end_rest) at x.did in
      record {
        same = λ d. let y = read_cut z.text d (state_view tree mid) (state_view tree new) b.cursor.rest z.rest k h.cuts e in let w = same d in
            both (λ (t u : Text). Runs t d (state_view tree new) u ↔ Runs old.text d (initial old.rest) old.rest) x.same.text x.same.rest (λ a. w.0 (y.0 a), λ a. y.1 (w.1 a));
        placed = both (λ (t u : Text). Placed t (state_view tree new) u) x.same.text x.same.rest (placed_step z.text (state_view tree mid) (state_view tree new) k b.cursor.rest z.rest e placed m.piece);
        counting = counting_goes_on old b.cursor z new.cursor k ts (unsliced b) (unsliced new) r.counting h m c x.same x.sliced;
      }

  -- a token that is not taken
  pub take_told : (new : Builder N) (k : Token) (ts : TokenSpan) (e : LexFailure) → HandsOver b.cursor k ts z → Steps tree (step_at tree mid k ts) (unsliced mid + 1) mid (Err e) new → AnswersParts tree old.text old.rest (Err e)
  take_told new k ts Faulty h x = λ d a. refuses z.text d (state_view tree mid) b.cursor.rest z.rest k h.cuts (rw (h.start_rest, h.end_rest) at x.did) ((same d).1 a)
  take_told new k ts Memory h x = tt

  pub take_counted : (A : Type 0) (new : Builder N) (k : Token) (ts : TokenSpan) (e : LexFailure) → Costs 24 0 b.cursor z → Steps tree (step_at tree mid k ts) (unsliced mid + 1) mid (Err e) new → ReadOn {A = A} (Err e) old new.cursor.steps
  take_counted A new k ts e c x =
      counting_fails (Unit {0}) A old b.cursor z new.cursor.steps (unsliced b + 1) (unsliced b) (unsliced new) e (omega arith) r.counting (record { most = omega (arith, c.most); least = c.least }) x.sliced

  -- the end of the text
  pub end_placed : (here : Position) → b.cursor.rest ≡ [] → here.rest ≡ z.rest → InOrder z.text b.from.rest here.rest
  end_placed here e h = state_from tree mid z.text here.rest (rw (h, all_read b.cursor z e m) (rw e at placed))

  pub end_told : (d : DocumentParts N) → b.cursor.rest ≡ [] → Finished tree (document_now tree mid) (Ok d) → AnswersParts tree old.text old.rest (Ok d)
  end_told d e f = (same _).0 (rw e (stops f))

  pub end_counted : {A : Type 0} (x : A) (new : Builder N) → b.cursor.rest ≡ [] → Costs 24 1 b.cursor z → Recounted z new.cursor → SlicedOn {A = A} (Ok x) (unsliced mid) 0 z.steps new.cursor.steps → ReadOn (Ok x) old new.cursor.steps
  end_counted x new e c q d = counting_ends x old b.cursor z new.cursor (unsliced b) r.counting e m c q d

  -- an end that may not be there
  pub end_refused : (e : LexFailure) → b.cursor.rest ≡ [] → Finished tree (document_now tree mid) (Err e) → AnswersParts tree old.text old.rest (Err e)
  end_refused Faulty i x = λ d a. let y = (at_stop z.text d (state_view tree mid)).0 (rw i at ((same d).1 a)) in cc
  end_refused Memory i x = tt

  pub end_refused_counted : (A : Type 0) (new : Builder N) (e : LexFailure) → Costs 24 1 b.cursor z → SlicedOn {A = DocumentParts N} (Err e) (unsliced mid) 0 z.steps new.cursor.steps → ReadOn {A = A} (Err e) old new.cursor.steps
  end_refused_counted A new e c d = counting_fails (DocumentParts N) A old b.cursor z new.cursor.steps (unsliced b) (unsliced b) 0 e (omega arith) r.counting c d
