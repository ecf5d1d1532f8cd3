use Rattle.std.proofs.Common.{◌≡◌, ℕ, length, ◌<◌, ◌∷◌, ◌++◌, ap, sym, ◌∙◌, arith}
use Rattle.std.proofs.lemmas.Str.{len_utf8_bounds}
use Rattle.std.specs.Prelude.{string_bytes, Some}
use Rattle.std.specs.Str.{chars}
use Rattle.kdl_text.specs.Chars.{Text, times}
use Rattle.kdl_text.specs.Internal.Here.{Here, Took, TookTwo}
use Rattle.kdl_text.specs.Internal.Reading.{Moves, Costs}
use Rattle.kdl_text.specs.Spans.{bytes}
use Rattle.kdl_text.proofs.Looking.MovesJoin.{moves_then, moves_one, moves_two, moves_stayed, fewer_bytes}
use Rattle.kdl_text.proofs.Numeric.DecimalReads.{always}
use Rattle.kdl_text.proofs.RawStrings.RawReads.{unsigned, unquoted, many_raw, many_raw_only, one_raw, one_raw_only}
use Rattle.kdl_text.proofs.strings.raw.raw_string.Goals as goal

signs_text : (j : ℕ) {s d m : Text} → s ≡ times j 35 ++ d → d ≡ 34 ∷ m → s ≡ times j 35 ++ 34 ∷ m
signs_text j h k = h ∙ ap (λ z. times j 35 ++ z) k

positive : {j : ℕ} → (j ≡ 0 → ⊥) → 0 < j
positive h = omega arith

many_cost : (a s b d e : Here) → Moves a s → Costs 1 1 a s → Took (Some 34) s b → TookTwo 34 34 b d → Moves d e → Costs 4 4 d e → Costs 24 0 a e
many_cost a s b d e n l t u m k = record {
  most = omega (arith, fewer_bytes n, fewer_bytes m, (len_utf8_bounds 34).0, l.most, ap bytes t.0, t.2, ap bytes u.rest, u.steps, k.most);
  least = omega (arith, l.least, ap length t.0, t.2, ap length u.rest, u.steps, k.least);
}

pub returns-then-signs-eq0-clause-only : goal.returns-then-signs-eq0-clause-only
returns-then-signs-eq0-clause-only c r w q = absurd (unsigned _ _ _ r w c.count_signs-signs.ensures.reads.text c.count_signs-signs.ensures.reads.stops c.if-signs-eq0.true q)

pub returns-then-not-eat-clause-only : goal.returns-then-not-eat-clause-only
returns-then-not-eat-clause-only c r w q = absurd (unquoted c.count_signs-signs.result _ _ r w c.count_signs-signs.ensures.reads.text c.count_signs-signs.ensures.reads.stops c.if-not-eat.ensures.0 q)

pub returns-then-eat_two-clause-found : goal.returns-then-eat_two-clause-found
returns-then-eat_two-clause-found c = many_raw c.count_signs-signs.result _ _ (signs_text c.count_signs-signs.result c.count_signs-signs.ensures.reads.text c.if-not-eat.ensures.0) (positive c.if-signs-eq0.false) c.many_lines.result (λ v. chars (string_bytes v)) _ _ c.if-eat_two.ensures.rest c.many_lines.ensures.found

pub returns-then-eat_two-clause-only : goal.returns-then-eat_two-clause-only
returns-then-eat_two-clause-only c r w q = c.many_lines.ensures.only r w (many_raw_only c.count_signs-signs.result _ _ (signs_text c.count_signs-signs.result c.count_signs-signs.ensures.reads.text c.if-not-eat.ensures.0) (positive c.if-signs-eq0.false) _ r w c.if-eat_two.ensures.rest q)

pub returns-then-eat_two-clause-moves : goal.returns-then-eat_two-clause-moves
returns-then-eat_two-clause-moves c = moves_then c.count_signs-signs.ensures.past.moves (moves_then (moves_one c.if-not-eat.ensures) (moves_then (moves_two c.if-eat_two.ensures) c.many_lines.ensures.past.moves))

pub returns-in_err-body-clause-only : goal.returns-in_err-body-clause-only
returns-in_err-body-clause-only c r w q =
    absurd (c.in_err-body.ensures.only r w (one_raw_only c.count_signs-signs.result _ _ (signs_text c.count_signs-signs.result c.count_signs-signs.ensures.reads.text c.if-not-eat.ensures.0) (positive c.if-signs-eq0.false) _ r w c.if-eat_two.ensures.0 c.if-eat_two.ensures.1.rest q))

pub returns-in_err-body-clause-moves : goal.returns-in_err-body-clause-moves
returns-in_err-body-clause-moves c = moves_then c.count_signs-signs.ensures.past.moves (moves_then (moves_one c.if-not-eat.ensures) (moves_then (moves_stayed c.if-eat_two.ensures.1) c.line_content.ensures.past.moves))

pub returns-in_err-to_string-clause-moves : goal.returns-in_err-to_string-clause-moves
returns-in_err-to_string-clause-moves c = moves_then c.count_signs-signs.ensures.past.moves (moves_then (moves_one c.if-not-eat.ensures) (moves_then (moves_stayed c.if-eat_two.ensures.1) c.line_content.ensures.past.moves))

pub returns-clause-moves : goal.returns-clause-moves
returns-clause-moves c = moves_then c.count_signs-signs.ensures.past.moves (moves_then (moves_one c.if-not-eat.ensures) (moves_then (moves_stayed c.if-eat_two.ensures.1) c.line_content.ensures.past.moves))

pub returns-clause-found : goal.returns-clause-found
returns-clause-found c = one_raw c.count_signs-signs.result _ _ _ _ _ _ (signs_text c.count_signs-signs.result c.count_signs-signs.ensures.reads.text c.if-not-eat.ensures.0) (positive c.if-signs-eq0.false) c.if-eat_two.ensures.0 c.if-eat_two.ensures.1.rest c.in_ok-body.ensures.found c.in_ok-to_string.ensures

pub returns-clause-only : goal.returns-clause-only
returns-clause-only c r w q =
    let (ends, same) = c.in_ok-body.ensures.only r w (one_raw_only c.count_signs-signs.result _ _ (signs_text c.count_signs-signs.result c.count_signs-signs.ensures.reads.text c.if-not-eat.ensures.0) (positive c.if-signs-eq0.false) _ r w c.if-eat_two.ensures.0 c.if-eat_two.ensures.1.rest q) in
    (ends, same ∙ sym c.in_ok-to_string.ensures)

pub returns-then-eat_two-clause-cost : goal.returns-then-eat_two-clause-cost
returns-then-eat_two-clause-cost c = always c.many_lines.result _ (many_cost _ _ _ _ _ c.count_signs-signs.ensures.past.moves c.count_signs-signs.ensures.past.costs c.if-not-eat.ensures c.if-eat_two.ensures c.many_lines.ensures.past.moves c.many_lines.ensures.past.costs)
