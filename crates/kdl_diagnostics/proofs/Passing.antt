-- Places that a cursor went past, and what its steps cost.
use Rattle.std.proofs.Common.{◌≡◌, ℕ, ◌+◌, ◌*◌, ◌<◌, ◌≤◌, ◌==◌, [], ◌∷◌, ◌++◌, Bool, true, false, refl, ap, sym, ◌∙◌, subst, append_assoc, arith}
use Rattle.std.proofs.Math.Nat.{add-mul, mul-add, mul-le-mul_left}
use Rattle.std.proofs.lemmas.Bool.{eqb-true}
use Rattle.std.proofs.lemmas.Str.{len_utf8_bounds}
use Rattle.std.specs.Char.{len_utf8}
use Rattle.std.specs.Option.{IfSome}
use Rattle.std.specs.Prelude.{Option, Some, None}
use Rattle.kdl_text.specs.Chars.{Text, begins, starts, is_newline_char, Newline, crlf, one}
use Rattle.kdl_text.specs.Internal.Here.{Here, Position, IsPart, Skips, Ran, Ate, AteTwo, Looked, Returned, Stayed, Took, first, tail, first_len, looked, stepped}
use Rattle.kdl_text.specs.Spans.{bytes}
use Rattle.kdl_text.specs.Strings.{Run}
use Rattle.kdl_text.specs.Internal.Reading.{Moves, Costs, ReadsNewline}
use Rattle.kdl_text.proofs.Looking.MovesJoin.{stays, moves_one, moves_then, moves_stayed, stayed_looked, fewer_bytes, bytes-append}
use Rattle.kdl_text.proofs.Looking.Parts.{part_moved}
use Rattle.kdl_text.proofs.Looking.Returns.{moves_returned}
use Rattle.kdl_text.proofs.Looking.SliceCost.{ate, moves_ran, costs_ran, costs_took}
use Rattle.kdl_text.proofs.Spacing.NewlineUnique.{newline_there}
use Rattle.kdl_text.proofs.Spacing.SpaceReads.{moves_ate_two}
use Rattle.kdl_diagnostics.specs.Internal.Reading.{EndsIn, GoesOn, IsEnd, LiesIn, OnFound, Passed, Reads, Since}
use Rattle.kdl_diagnostics.specs.declared.strings.Found.{Found}

-- an end of an end of a text
pub after_then : (s t u : Text) → (p : Text) × (s ≡ p ++ t) → (p : Text) × (t ≡ p ++ u) → (p : Text) × (s ≡ p ++ u)
after_then s t u (p, e) (q, f) = (p ++ q, e ∙ ap (λ z. p ++ z) f ∙ sym (append_assoc p q u))

pub after_same : (s t u : Text) → (p : Text) × (s ≡ p ++ t) → u ≡ t → (p : Text) × (s ≡ p ++ u)
after_same s t u (p, e) h = (p, e ∙ ap (λ z. p ++ z) (sym h))

pub after_bytes : (s t : Text) → (p : Text) × (s ≡ p ++ t) → bytes t ≤ bytes s
after_bytes s t (p, e) = omega (arith, ap bytes e, bytes-append p t)

-- reading
pub reads_here : (k : ℕ) (a : Here) → Reads k 0 a a
reads_here k a = record { moves = stays a; most = omega arith }

pub reads_then : {k c d : ℕ} {a b e : Here} → Reads k c a b → Reads k d b e → Reads k (c + d) a e
reads_then r s = record { moves = moves_then r.moves s.moves; most = omega (arith, r.most, s.most) }

-- with more to spend
pub reads_up : (i : ℕ) {j c : ℕ} {a b : Here} → Reads j c a b → Reads (j + i) c a b
reads_up i {j = j} {a = a} {b = b} r = record {
  moves = r.moves;
  most = omega (arith, r.most, add-mul j i (bytes b.rest), add-mul j i (bytes a.rest), mul-le-mul_left i (fewer_bytes r.moves));
}

pub reads_more : (i : ℕ) {k c : ℕ} {a b : Here} → Reads k c a b → Reads k (c + i) a b
reads_more i r = record { moves = r.moves; most = omega (arith, r.most) }

-- what is not counted by bytes is paid by the first one
pub goes_paid : {k c : ℕ} {a b : Here} → Reads k c a b → bytes b.rest < bytes a.rest → GoesOn (k + c) a b
goes_paid {k = k} {c = c} {a = a} {b = b} r few =
    let one : bytes b.rest + 1 ≤ bytes a.rest = omega (arith, few) in
    let paid : c * (bytes b.rest + 1) ≤ c * bytes a.rest = mul-le-mul_left c one in
    record {
      reads = record {
        moves = r.moves;
        most = omega (arith, r.most, paid, add-mul k c (bytes b.rest), add-mul k c (bytes a.rest), mul-add c (bytes b.rest) 1);
      };
      went = few;
    }

pub goes_then : {k c : ℕ} {a b e : Here} → GoesOn 0 a b → Reads k c b e → GoesOn (k + c) a e
goes_then {k = k} {b = b} s r = goes_paid (record { moves = moves_then s.reads.moves r.moves; most = omega (arith, s.reads.most, r.most, mul-le-mul_left k (fewer_bytes s.reads.moves)) }) (omega (arith, s.went, fewer_bytes r.moves))

pub reads_costs : {k c : ℕ} {a b : Here} → Moves a b → Costs k c a b → Reads k c a b
reads_costs m k = record { moves = m; most = k.most }

pub reads_ran : {p : ℕ → Bool} {a b : Here} → Skips p a b → Reads 1 1 a b
reads_ran (run, r) = reads_costs (moves_ran r) (costs_ran r)

pub reads_stayed : (k : ℕ) {j : ℕ} {a b : Here} → Stayed j a b → Reads k j a b
reads_stayed k s = record { moves = moves_stayed s; most = omega (arith, s.steps, ap (λ z. k * bytes z) s.rest) }

pub reads_looked : (k : ℕ) (a b : Here) → b ≡ looked a → Reads k 1 a b
reads_looked k a b e = reads_stayed k (stayed_looked a b e)

pub reads_ate : (c : ℕ) (r : Bool) (a b : Here) → Ate c r a b → Reads 1 1 a b
reads_ate c r a b t = let x = ate c r a b t in reads_costs x.0 x.1

pub goes_took : {c : ℕ} {a b : Here} → Took (Some c) a b → GoesOn 1 a b
goes_took {c = c} t = record { reads = reads_costs (moves_one t) (costs_took t); went = omega (arith, ap bytes t.0, (len_utf8_bounds c).0) }

pub returned_few : (n : ℕ) (a b : Here) → Looked n a b → Returned n a b
returned_few n a b (j, few, s) = record { rest = s.rest; at = s.at; most = omega (arith, few, s.steps); counts = omega (arith, s.steps); same = s.same }

pub returned_looked : (a b : Here) → b ≡ looked a → Returned 1 a b
returned_looked a b e = let s = stayed_looked a b e in record { rest = s.rest; at = s.at; most = omega (arith, s.steps); counts = omega (arith, s.steps); same = s.same }

pub reads_returned : (k : ℕ) {n : ℕ} {a b : Here} → Returned n a b → Reads k n a b
reads_returned k r = record { moves = moves_returned r; most = omega (arith, r.most, ap (λ z. k * bytes z) r.rest) }

-- a run of a class, and a look after it
pub ended : (p : ℕ → Bool) (a b e : Here) → Skips p a b → e ≡ looked b → Reads 1 2 a e
ended p a b e r l = reads_then (reads_ran r) (reads_looked 1 b e l)

-- a step past a character takes no look
stepped_past : (c : ℕ) (a b : Here) → a.rest ≡ c ∷ tail a.rest → b ≡ stepped a → GoesOn 0 a b
stepped_past c a b h e =
    let r : b.rest ≡ tail a.rest = ap (λ z. z.rest) e in
    let at : b.at ≡ a.at + first_len a.rest = ap (λ z. z.at) e in
    let l : first_len a.rest ≡ len_utf8 c = ap first_len h in
    let s : bytes a.rest ≡ len_utf8 c + bytes (tail a.rest) = ap bytes h in
    let t : bytes b.rest ≡ bytes (tail a.rest) = ap bytes r in
    let u : b.steps ≡ a.steps = ap (λ z. z.steps) e in
    record {
      reads = record {
        moves = record { piece = (c ∷ [], h ∙ ap (λ z. c ∷ z) (sym r)); at = omega arith; counts = omega arith; same = ap (λ z. z.text) e };
        most = omega arith;
      };
      went = omega (arith, (len_utf8_bounds c).0);
    }

first_is : (s : Text) (c : ℕ) → first s ≡ Some c → s ≡ c ∷ tail s
first_is [] c h = cc
first_is (d ∷ s) c h = cc

begins_is : (s : Text) (c : ℕ) → begins c s ≡ true → s ≡ c ∷ tail s
begins_is [] c h = cc
begins_is (d ∷ s) c h = ap (λ z. z ∷ s) (eqb-true d c h)

pub stepped_there : (a b : Here) → (a.rest ≡ [] → ⊥) → b ≡ stepped a → GoesOn 0 a b
stepped_there a b h e = go a.rest refl
  where
    go : (s : Text) → a.rest ≡ s → GoesOn 0 a b
    go [] x = absurd (h x)
    go (c ∷ s) x = stepped_past c a b (x ∙ ap (λ z. c ∷ tail z) (sym x)) e

pub stepped_first : (c : ℕ) (a b : Here) → first a.rest ≡ Some c → b ≡ stepped a → GoesOn 0 a b
stepped_first c a b h e = stepped_past c a b (first_is a.rest c h) e

pub stepped_begins : (c : ℕ) (a b : Here) → begins c a.rest ≡ true → b ≡ stepped a → GoesOn 0 a b
stepped_begins c a b h e = stepped_past c a b (begins_is a.rest c h) e

-- places that were passed
pub passed_here : {s : Text} {m b : Here} {place : Position} → place.rest ≡ m.rest → (p : Text) × (s ≡ p ++ m.rest) → Moves m b → Passed s place b.rest
passed_here e x w = record { before = after_same _ _ _ x e; following = (w.piece.0, e ∙ w.piece.1) }

passed_on : {s : Text} {m b : Here} {place : Position} → Passed s place m.rest → Moves m b → Passed s place b.rest
passed_on p w = record { before = p.before; following = after_then _ _ _ p.following w.piece }

pub found_on : (s : Text) {m b : Here} (f : Option Found) → OnFound s f m.rest → Moves m b → OnFound s f b.rest
found_on s None p w = tt
found_on s (Some f) p w = passed_on p w

-- places in an end of a text
pub if_lies : (s t : Text) (o : Option Position) → (p : Text) × (s ≡ p ++ t) → IfSome o (LiesIn t) → IfSome o (LiesIn s)
if_lies s t None x y = tt
if_lies s t (Some b) x y = after_then s t b.rest x y

pub ends_in : (s t : Text) (e : Position × Option Position) → (p : Text) × (s ≡ p ++ t) → EndsIn t e → EndsIn s e
ends_in s t e x i = record { place = after_then s t e.0.rest x i.place; comment = if_lies s t e.1 x i.comment }

pub end_from : {a b : Here} {e : Position × Option Position} → Moves a b → IsEnd b e → IsEnd a e
end_from m i = record { ends = ends_in _ _ _ m.piece i.ends; at = i.at ∙ m.at }

pub end_here : {a b : Here} (place : Position) → place.rest ≡ b.rest → place.at ≡ b.at → Moves a b → IsEnd a (place, None)
end_here {a = a} {b = b} place r t m = record {
  ends = record { place = after_same a.rest b.rest place.rest m.piece r; comment = tt };
  at = omega (arith, ap bytes r, t, m.at);
}

-- a cursor at a place or after it
pub since_here : {place : Position} {a b : Here} → place.rest ≡ a.rest → IsPart a.text place.rest → Moves a b → Since place b
since_here e i m = record { before = (m.piece.0, e ∙ m.piece.1); part = part_moved i m }

pub since_moves : {place : Position} {a b : Here} → Since place a → Moves a b → Since place b
since_moves x m = record { before = after_then _ _ _ x.before m.piece; part = part_moved x.part m }

pub since_bytes : {place : Position} {a : Here} → Since place a → bytes a.rest ≤ bytes place.rest
since_bytes x = after_bytes _ _ x.before

-- newlines
newline_bytes : {t r : Text} → Newline t r → bytes r < bytes t
newline_bytes crlf = omega (arith, (len_utf8_bounds 13).0, (len_utf8_bounds 10).0)
newline_bytes (one {c = c} h k) = omega (arith, (len_utf8_bounds c).0)

pub newline_first : (r : Bool) (c : ℕ) (a e : Here) → ReadsNewline r a e → first a.rest ≡ Some c → true ≡ is_newline_char c → bytes e.rest < bytes a.rest
newline_first true c a e n h x = newline_bytes n
newline_first false c a e (s, none) h x =
    let is : a.rest ≡ c ∷ tail a.rest = first_is a.rest c h in
    let there = newline_there c (tail a.rest) (sym x) in
    absurd (none there.0 (subst (λ z. Newline z there.0) (sym is) there.1))

-- what a look found is still there
pub first_same : (c : ℕ) (b m : Here) → Some c ≡ first b.rest → m.rest ≡ b.rest → first m.rest ≡ Some c
first_same c b m h r = ap first r ∙ sym h

pub first_looked : (c : ℕ) (b m : Here) → Some c ≡ first b.rest → m ≡ looked b → first m.rest ≡ Some c
first_looked c b m h l = first_same c b m h (ap (λ z. z.rest) l)

-- a run that is not empty
pub ran_fewer : (p : ℕ → Bool) (a b : Here) → Skips p a b → starts p a.rest ≡ true → bytes b.rest < bytes a.rest
ran_fewer p a b (run, r) h = go run r
  where
    go : (run : Text) → Ran p run a b → bytes b.rest < bytes a.rest
    go [] r = let t = r.text in let s = r.stops in absurd (cc)
    go (c ∷ run) r = omega (arith, ap bytes r.text, bytes-append run b.rest, (len_utf8_bounds c).0)

pub run_fewer : (p : ℕ → Bool) (s r : Text) → Run p s r → starts p s ≡ true → bytes r < bytes s
run_fewer p s r i h = go i.run i.text
  where
    go : (run : Text) → s ≡ run ++ r → bytes r < bytes s
    go [] t = let stops = i.stops in absurd (cc)
    go (c ∷ run) t = omega (arith, ap bytes t, bytes-append run r, (len_utf8_bounds c).0)

pub starts_begins : (c : ℕ) (s : Text) → begins c s ≡ true → starts (λ d. d == c) s ≡ true
starts_begins c [] h = h
starts_begins c (d ∷ s) h = h

pub starts_first : (p : ℕ → Bool) (c : ℕ) (s : Text) → first s ≡ Some c → true ≡ p c → starts p s ≡ true
starts_first p c [] h x = cc
starts_first p c (d ∷ s) h x = cc

-- two characters that were there, or were not
pub reads_two : (c d : ℕ) (r : Bool) (a b : Here) → AteTwo c d r a b → Reads 0 2 a b
reads_two c d true a b t = record { moves = moves_ate_two c d true a b t; most = omega (arith, t.steps) }
reads_two c d false a b (n, s) = reads_stayed 0 s
