-- How moves and costs go on.
use Rattle.std.proofs.Common.{◌≡◌, ℕ, ◌+◌, ◌≤◌, List, [], ◌∷◌, ◌++◌, refl, ap, sym, ◌∙◌, append_assoc, arith}
use Rattle.std.specs.Char.{len_utf8}
use Rattle.std.specs.Prelude.{Some}
use Rattle.kdl_text.specs.Internal.Here.{Here, Took, TookTwo, Stayed, Looked, looked, stepped, first, tail, first_len}
use Rattle.kdl_text.specs.Spans.{bytes}
use Rattle.kdl_text.specs.Internal.Reading.{Moves, Costs}

pub stays : (a : Here) → Moves a a
stays a = record { piece = ([], refl); at = refl; counts = omega arith; same = refl }

pub moves_then : {a b e : Here} → Moves a b → Moves b e → Moves a e
moves_then {a = a} {b = b} {e = e} m n = record {
  piece = (m.piece.0 ++ n.piece.0, m.piece.1 ∙ ap (λ x. m.piece.0 ++ x) n.piece.1 ∙ sym (append_assoc m.piece.0 n.piece.0 e.rest));
  at = n.at ∙ m.at;
  counts = omega (arith, m.counts, n.counts);
  same = n.same ∙ m.same;
}

pub moves_stayed : {k : ℕ} {a b : Here} → Stayed k a b → Moves a b
moves_stayed s = record { piece = ([], sym s.rest); at = omega (arith, ap bytes s.rest, s.at); counts = omega (arith, s.steps); same = s.same }

pub moves_one : {c : ℕ} {a b : Here} → Took (Some c) a b → Moves a b
moves_one {c = c} (r, at, s, x) = record { piece = (c ∷ [], r); at = omega (arith, ap bytes r, at); counts = omega (arith, s); same = x }

pub moves_two : {c d : ℕ} {a b : Here} → TookTwo c d a b → Moves a b
moves_two {c = c} {d = d} t = record { piece = (c ∷ d ∷ [], t.rest); at = omega (arith, ap bytes t.rest, t.at); counts = omega (arith, t.steps); same = t.same }

pub stayed_looked : (a b : Here) → b ≡ looked a → Stayed 1 a b
stayed_looked a b e = record { rest = ap (λ z. z.rest) e; at = ap (λ z. z.at) e; steps = ap (λ z. z.steps) e; same = ap (λ z. z.text) e }

pub looked_then : (n : ℕ) (a b e : Here) → b ≡ looked a → Looked n b e → Looked (n + 1) a e
looked_then n a b e x (k, few, s) =
    let t = stayed_looked a b x in
    (k + 1, omega (arith, few), record { rest = s.rest ∙ t.rest; at = s.at ∙ t.at; steps = omega (arith, s.steps, t.steps); same = s.same ∙ t.same })

first_is : (s : List ℕ) (c : ℕ) → Some c ≡ first s → s ≡ c ∷ tail s
first_is [] c h = cc
first_is (d ∷ s) c h = cc

pub took_from : (c : ℕ) (a b e : Here) → Some c ≡ first a.rest → b ≡ looked a → e ≡ stepped b → Took (Some c) a e
took_from c a b e h x y =
    let r = first_is a.rest c h in
    let u : b.rest ≡ c ∷ tail a.rest = ap (λ z. z.rest) x ∙ r in (
      r ∙ ap (λ z. c ∷ z) (sym (ap (λ z. z.rest) y ∙ ap tail u)),
      ap (λ z. z.at) y ∙ ap (λ z. b.at + first_len z) u ∙ ap (λ z. z + len_utf8 c) (ap (λ z. z.at) x),
      ap (λ z. z.steps) y ∙ ap (λ z. z.steps) x,
      ap (λ z. z.text) y ∙ ap (λ z. z.text) x,
    )

pub bytes-append : (p q : List ℕ) → bytes (p ++ q) ≡ bytes p + bytes q
bytes-append [] q = omega arith
bytes-append (c ∷ p) q = omega (arith, bytes-append p q)

pub fewer_bytes : {a b : Here} → Moves a b → bytes b.rest ≤ bytes a.rest
fewer_bytes {a = a} {b = b} m = omega (arith, ap bytes m.piece.1, bytes-append m.piece.0 b.rest)

pub costs_less : {k : ℕ} {a b : Here} → Costs k 0 a b → Costs k 1 a b
costs_less c = record { most = omega (arith, c.most); least = c.least }
