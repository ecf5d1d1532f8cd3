-- Esclines: one was read, or none is here.
use Rattle.std.proofs.Common.{◌≡◌, ℕ, ◌≤◌, Bool, [], ◌∷◌, true, false, ◌==◌, length, refl, ap, arith}
use Rattle.std.proofs.lemmas.Bool.{and_parts, eqb-true}
use Rattle.std.proofs.lemmas.Str.{len_utf8_bounds}
use Rattle.std.specs.Prelude.{Some}
use Rattle.kdl_text.specs.Chars.{Text, begins_two}
use Rattle.kdl_text.specs.Chars.Space.{space}
use Rattle.kdl_text.specs.Internal.Here.{Here, Took}
use Rattle.kdl_text.specs.Spans.{bytes}
use Rattle.kdl_text.specs.Internal.Reading.{Reads, Moves, Costs}
use Rattle.kdl_text.specs.Trivia.{BlockComment, Ws, EscEnd, Escline}
use Rattle.kdl_text.specs.Trivia.Ws.{space as ws_space, comment as ws_comment}
use Rattle.kdl_text.specs.Trivia.EscEnd.{comment, newline}
use Rattle.kdl_text.specs.Trivia.Escline.{escline}
use Rattle.kdl_text.specs.Internal.TriviaReading.{PieceCosts, Opens, RunsWs}
use Rattle.kdl_text.proofs.Looking.MovesJoin.{moves_then, moves_one, fewer_bytes}
use Rattle.kdl_text.proofs.Spacing.SpaceUnique.{slash_no_space, slash_no_newline, newline_begins, line_comment_begins, escline_ends_at, escline_det}
use Rattle.kdl_text.proofs.Spacing.SpaceReads.{reads_found}

opens_is : (s : Text) → begins_two 47 42 s ≡ true → (t : Text) × (s ≡ 47 ∷ 42 ∷ t)
opens_is [] h = cc
opens_is (c ∷ []) h = let k = (and_parts (c == 47) false h).1 in cc
opens_is (c ∷ d ∷ s) h = let k = and_parts (c == 47) (d == 42) h in let x = eqb-true c 47 k.0 in let y = eqb-true d 42 k.1 in (s, cc)

slash_ws : {s r : Text} → Ws (47 ∷ 42 ∷ s) r → BlockComment (47 ∷ 42 ∷ s) r
slash_ws (ws_space (space x)) = let y = slash_no_space in cc
slash_ws (ws_comment p) = p

-- where a comment isn't closed no ws begins, and an escline doesn't end
opens_ws : {s r : Text} → Opens s → Ws s r → ⊥
opens_ws {s = s} {r = r} o w = let e = (opens_is s o.opens).1 in o.unclosed r (rw e (slash_ws (rw e at w)))

slash_end : {s r : Text} → EscEnd (47 ∷ 42 ∷ s) r → ⊥
slash_end (comment l) = let x = line_comment_begins l in cc
slash_end (newline n) = let x = newline_begins n in let y = slash_no_newline in cc

opens_end : {s r : Text} → Opens s → EscEnd s r → ⊥
opens_end {s = s} o p = slash_end (rw (opens_is s o.opens).1 at p)

-- esclines
pub esc_reads : (ok : Bool) (a b m : Here) (e : Text) → Took (Some 92) a b → RunsWs true b m → Reads EscEnd ok m.rest e → Reads Escline ok a.rest e
esc_reads true a b m e t (l, x) p = let found : Escline a.rest e = rw t.0 (escline l.0 ((p e).1 refl)) in reads_found Escline _ _ found (λ r q. escline_det q found)
esc_reads false a b m e t (l, x) n = λ r p. n r (escline_ends_at l.0 l.1 (rw t.0 at p))

pub esc_unclosed : (a b m : Here) → Took (Some 92) a b → RunsWs false b m → (r : Text) → Escline a.rest r → ⊥
esc_unclosed a b m t (u, run, o) = λ r p. opens_end o (escline_ends_at run (λ w. opens_ws o) (rw t.0 at p))

-- what went on after the backslash
pub esc_moves : (a b e : Here) → Took (Some 92) a b → Moves b e → Moves a e
esc_moves a b e t m = moves_then (moves_one t) m

pub esc_costs : (k : ℕ) (a b e : Here) → Took (Some 92) a b → Moves b e → Costs 3 k b e → k ≤ 7 → PieceCosts 8 a e
esc_costs k a b e t m h s =
    let x = ap bytes t.0 in
    let y = len_utf8_bounds 92 in
    record {
      fewer = omega (arith, x, y.0, fewer_bytes m);
      costs = record { most = omega (arith, t.2, x, y.0, h.most, fewer_bytes m); least = omega (arith, t.2, ap length t.0, h.least) };
    }

pub both_costs : (a b e : Here) → Costs 3 3 a b → Costs 2 4 b e → Moves b e → Costs 3 7 a e
both_costs a b e c d m = record { most = omega (arith, c.most, d.most, fewer_bytes m); least = omega (arith, c.least, d.least) }
