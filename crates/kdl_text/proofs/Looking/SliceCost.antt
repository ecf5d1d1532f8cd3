-- Runs and slices: what they cost.
use Rattle.std.proofs.Common.{◌≡◌, ℕ, ◌+◌, ◌≤◌, List, Bool, true, false, ◌++◌, length, refl, sym, ap, ◌∙◌, arith, length-append}
use Rattle.std.specs.Prelude.{Some, Result, Ok, Err, is_ok, IfOk, if◌then◌else◌}
use Rattle.std.specs.Str.{chars, IsUtf8}
use Rattle.std.specs.List.{list_all}
use Rattle.std.proofs.lemmas.List.{append_cancel_right}
use Rattle.std.proofs.lemmas.Str.{chars-append}
use Rattle.kdl_text.specs.Chars.{Text}
use Rattle.kdl_text.specs.Internal.Here.{Here, Took, TookTwo, Stayed, Ate, Ran, Passed, Skips, looked, sliced}
use Rattle.kdl_text.specs.Spans.{bytes}
use Rattle.kdl_text.specs.Internal.Reading.{Moves, Costs, Past, Consumed, CutsRun}
use Rattle.kdl_text.specs.Strings.{Run}
use Rattle.kdl_text.proofs.Looking.MovesJoin.{stays, moves_then, moves_one, moves_two, moves_stayed, stayed_looked, fewer_bytes, bytes-append}
use Rattle.kdl_text.proofs.Looking.Runs.{length-bytes}
use Rattle.std.proofs.lemmas.Str.{len_utf8_bounds}

pub moves_ran : {p : ℕ → Bool} {run : Text} {a b : Here} → Ran p run a b → Moves a b
moves_ran {run = run} {b = b} r = record { piece = (run, r.text); at = omega (arith, ap bytes r.text, bytes-append run b.rest, r.at); counts = omega (arith, r.steps); same = r.same }

pub costs_ran : {p : ℕ → Bool} {run : Text} {a b : Here} → Ran p run a b → Costs 1 1 a b
costs_ran {run = run} {b = b} r = record {
  most = omega (arith, r.steps, ap bytes r.text, bytes-append run b.rest, length-bytes run);
  least = omega (arith, r.steps, ap length r.text, length-append run b.rest);
}

pub moves_passed : {p : ℕ → Bool} {a b : Here} → Passed p a b → Moves a b
moves_passed {b = b} r = record { piece = (r.run, r.text); at = omega (arith, ap bytes r.text, bytes-append r.run b.rest, r.at); counts = omega (arith, r.steps); same = r.same }

pub run_ran : {p : ℕ → Bool} {run : Text} {a b : Here} → Ran p run a b → Run p a.rest b.rest
run_ran {run = run} r = record { run = run; text = r.text; all = r.all; stops = r.stops }

pub moves_sliced : (x : Text) (f a b : Here) → b ≡ sliced x a → Moves f a → Moves f b
moves_sliced x f a b e m = rw e (record { piece = m.piece; at = m.at; counts = omega (arith, m.counts); same = m.same })

-- a slice of what was read since f
pub costs_sliced : (c : ℕ) (x : Text) (f a b : Here) → b ≡ sliced x a → f.rest ≡ x ++ a.rest → Costs 1 c f a → Costs 2 c f b
costs_sliced c x f a b e t i =
    let s = ap (λ z. z.steps) e in let r = ap (λ z. z.rest) e in
    record {
      most = omega (arith, s, ap bytes r, ap bytes t, bytes-append x a.rest, i.most);
      least = omega (arith, s, ap length r, i.least);
    }

pub costs_took : {c : ℕ} {a b : Here} → Took (Some c) a b → Costs 1 0 a b
costs_took {c = c} (r, at, s, x) = record { most = omega (arith, ap bytes r, s, (len_utf8_bounds c).0); least = omega (arith, ap length r, s) }

pub costs_looked : (a b : Here) → b ≡ looked a → Costs 1 1 a b
costs_looked a b e = let s = ap (λ z. z.steps) e in let r = ap (λ z. z.rest) e in record { most = omega (arith, s, ap bytes r); least = omega (arith, s, ap length r) }

pub ate : (c : ℕ) (r : Bool) (a b : Here) → Ate c r a b → Moves a b × Costs 1 1 a b
ate c true a b t = let k = costs_took t in (moves_one t, record { most = omega (arith, k.most); least = k.least })
ate c false a b (n, e) = (moves_stayed (stayed_looked a b e), costs_looked a b e)

-- what was read at a cost, one piece after another
pub past_start : {k : ℕ} {a : Here} → Past k 0 a a
past_start = record { moves = stays _; costs = record { most = omega arith; least = omega arith } }

pub past_then : {k i j : ℕ} {a b e : Here} → Past k i a b → Past k j b e → Past k (i + j) a e
past_then p q = record {
  moves = moves_then p.moves q.moves;
  costs = record { most = omega (arith, p.costs.most, q.costs.most); least = omega (arith, p.costs.least, q.costs.least) };
}

pub past_two : {i : ℕ} {a b : Here} → Past 1 i a b → Past 2 i a b
past_two p = record { moves = p.moves; costs = record { most = omega (arith, p.costs.most, fewer_bytes p.moves); least = p.costs.least } }

pub past_more : {k i j : ℕ} {a b : Here} → i ≤ j → Past k i a b → Past k j a b
past_more h p = record { moves = p.moves; costs = record { most = omega (arith, p.costs.most, h); least = p.costs.least } }

pub past_took : {c : ℕ} {a b : Here} → Took (Some c) a b → Past 1 0 a b
past_took t = record { moves = moves_one t; costs = costs_took t }

pub past_look : {a b : Here} → b ≡ looked a → Past 1 1 a b
past_look e = record { moves = moves_stayed (stayed_looked _ _ e); costs = costs_looked _ _ e }

pub past_ate : (c : ℕ) (r : Bool) {a b : Here} → Ate c r a b → Past 1 1 a b
past_ate c r e = let (moved, cost) = ate c r _ _ e in record { moves = moved; costs = cost }

pub past_ran : {p : ℕ → Bool} {run : Text} {a b : Here} → Ran p run a b → Past 1 1 a b
past_ran r = record { moves = moves_ran r; costs = costs_ran r }

-- a character pays for a look after it
pub past_after : {c : ℕ} {a b e : Here} → Took (Some c) a b → Past 2 1 b e → Past 2 0 a e
past_after {c = c} t p = record {
  moves = moves_then (moves_one t) p.moves;
  costs = record { most = omega (arith, ap bytes t.0, t.2, (len_utf8_bounds c).0, p.costs.most); least = omega (arith, ap length t.0, t.2, p.costs.least) };
}

pub past_four : {i : ℕ} {a b : Here} → Past 2 i a b → Past 4 i a b
past_four p = record { moves = p.moves; costs = record { most = omega (arith, p.costs.most, fewer_bytes p.moves); least = p.costs.least } }

pub past_three : {i : ℕ} {a b : Here} → Past 2 i a b → Past 3 i a b
past_three p = record { moves = p.moves; costs = record { most = omega (arith, p.costs.most, fewer_bytes p.moves); least = p.costs.least } }

-- or for two, at three steps
pub past_pays : {c : ℕ} {a b e : Here} → Took (Some c) a b → Past 3 2 b e → Past 3 0 a e
past_pays {c = c} t p = record {
  moves = moves_then (moves_one t) p.moves;
  costs = record { most = omega (arith, ap bytes t.0, t.2, (len_utf8_bounds c).0, p.costs.most); least = omega (arith, ap length t.0, t.2, p.costs.least) };
}

pub past_passed : {p : ℕ → Bool} {a b : Here} → Passed p a b → Past 1 0 a b
past_passed {b = b} r = record {
  moves = moves_passed r;
  costs = record {
    most = omega (arith, r.steps, ap bytes r.text, bytes-append r.run b.rest);
    least = omega (arith, r.steps, ap length r.text, length-append r.run b.rest, length-bytes r.run);
  };
}

pub past_stayed : {k : ℕ} {a b : Here} → Stayed k a b → Past 1 k a b
past_stayed s = record { moves = moves_stayed s; costs = record { most = omega (arith, s.steps, ap bytes s.rest); least = omega (arith, s.steps, ap length s.rest) } }

pub past_both : {c d : ℕ} {a b : Here} → TookTwo c d a b → Past 1 0 a b
past_both {c = c} {d = d} t = record {
  moves = moves_two t;
  costs = record { most = omega (arith, t.steps, ap bytes t.rest, (len_utf8_bounds c).0, (len_utf8_bounds d).0); least = omega (arith, t.steps, ap length t.rest) };
}

-- a run from here on and its slice
pub ran_sliced : (p : ℕ → Bool) (x : Text) (a m e : Here) → Skips p a m → a.rest ≡ x ++ m.rest → e ≡ sliced x m → Consumed 2 1 (CutsRun p x) a e
ran_sliced p x a m e (run, r) t s =
    rw s (record {
      reads = record { run = run_ran r; text = t };
      past = record { moves = moves_sliced x a m (sliced x m) refl (moves_ran r); costs = costs_sliced 1 x a m (sliced x m) refl t (costs_ran r) };
    })

-- the run is what lies between
pub all_of_run : (q : ℕ → Bool) (p t r : Text) → Run q t r → t ≡ p ++ r → list_all q p ≡ true
all_of_run q p t r k e = let same : k.run ≡ p = append_cancel_right k.run p r (sym k.text ∙ e) in ap (list_all q) (sym same) ∙ k.all

-- a text after a text
pub pushed : {T E : Type 0} (r : Result T E) (a n t x : List ℕ) → IsUtf8 a → n ≡ (if is_ok r then a ++ t else a) → chars t ≡ x → IfOk r (λ _. chars n ≡ chars a ++ x)
pushed (Ok v) a n t x u e h = ap chars e ∙ chars-append a t u ∙ ap (λ z. chars a ++ z) h
pushed (Err v) a n t x u e h = tt
