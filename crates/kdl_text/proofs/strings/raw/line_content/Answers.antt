use Rattle.std.proofs.Common.{◌≡◌, ℕ, ◌<◌, ◌∷◌, ◌++◌, sym, ◌∙◌, ap, subst, refl, arith, length, false, Some}
use Rattle.kdl_text.specs.Chars.{Text, begins, times}
use Rattle.kdl_text.specs.Internal.Here.{Here, Took, sliced}
use Rattle.kdl_text.specs.Internal.Reading.{Past}
use Rattle.kdl_text.specs.Raw.{closing, literals, RawUnits, more, char}
use Rattle.kdl_text.specs.Spans.{bytes}
use Rattle.kdl_text.proofs.Looking.MovesJoin.{moves_one, moves_then, fewer_bytes, bytes-append}
use Rattle.kdl_text.proofs.Looking.Parts.{part_moved}
use Rattle.kdl_text.proofs.Looking.SliceCost.{past_two, past_four, past_more, moves_sliced}
use Rattle.kdl_text.proofs.RawStrings.ClosingPlaces.{short_closing, signs_pass, quote_raw}
use Rattle.kdl_text.proofs.RawStrings.LineLoop.{line_ends, line_stuck}
use Rattle.kdl_text.proofs.RawStrings.LinesLoop.{raw_begins, raw_run, raw_open, raw_past, raw_read, raw_runs_out}
use Rattle.kdl_text.proofs.strings.raw.line_content.Goals as goal

-- a quote with too few number signs
short : (n j : ℕ) (a d : Text) → a ≡ 34 ∷ (times j 35 ++ d) → j < n → begins 35 d ≡ false → (p : Text) × (a ≡ p ++ d) × RawUnits (closing 1 n) a d (literals p)
short n j a d e few stops =
    let unit : RawUnits (closing 1 n) ((34 ∷ times j 35) ++ d) d (literals (34 ∷ times j 35)) = more (char (short_closing n j d few stops) quote_raw) (signs_pass (times n 35) j d) in
    (34 ∷ times j 35, e, subst (λ z. RawUnits (closing 1 n) z d (literals (34 ∷ times j 35))) (sym e) unit)

-- what was read is cut out
cut_past : (p : Text) (f a b d e : Here) → f.rest ≡ p ++ a.rest → Past 2 0 f a → Took (Some 34) a b → Past 1 1 b d → e ≡ sliced p d → Past 4 2 f e
cut_past p f a b d e text i t s made = record {
  moves = moves_sliced p f d e made (moves_then i.moves (moves_then (moves_one t) s.moves));
  costs = record {
    most = omega (arith, i.costs.most, ap bytes text, bytes-append p a.rest, ap bytes t.0, t.2, s.costs.most, fewer_bytes s.moves, ap (λ z. z.steps) made, ap (λ z. bytes z.rest) made);
    least = omega (arith, i.costs.least, ap length t.0, t.2, s.costs.least, ap (λ z. z.steps) made, ap (λ z. length z.rest) made);
  };
}

pub parts-init : goal.parts-init
parts-init c = raw_begins _ _

pub parts-preserved-else-eat_signs-signs : goal.parts-preserved-else-eat_signs-signs
parts-preserved-else-eat_signs-signs c =
    let did = c.eat_signs.ensures in
    let few : c.eat_signs.result < c.args.signs = omega (arith, did.reads.few) in
    let took = c.in-Some-eq34.ensures.took in
    let text = took.0 ∙ ap (λ z. z ∷ c.take.new.self.rest) c.in-Some-eq34.field-0-test ∙ ap (λ z. 34 ∷ z) did.reads.text in
    raw_open _ _ _ c.parts.invariant _ _ took _ _ refl (past_two did.past) (short c.args.signs c.eat_signs.result _ _ text few (did.reads.stops few))

pub parts-preserved : goal.parts-preserved
parts-preserved c = raw_run _ _ _ c.parts.invariant _ _ c.in-Some.ensures.took _ c.in-Some.c-test.1 (sym c.is_raw.ensures ∙ c.if-is_raw.true) c.skip.ensures

pub slice_between-requires : goal.slice_between-requires
slice_between-requires c =
    let i = c.parts.invariant in
    record {
      order = (i.read, c.checkpoint-start.ensures.rest ∙ i.text ∙ ap (λ z. i.read ++ z) (sym c.checkpoint-end.ensures.rest));
      part = part_moved c.checkpoint-start.ensures.part (moves_then i.past.moves (moves_then (moves_one c.in-Some-eq34.ensures.took) c.eat_signs.ensures.past.moves));
    }

pub returns-then-eat_signs-signs : goal.returns-then-eat_signs-signs
returns-then-eat_signs-signs c =
    let i = c.parts.invariant in
    let did = c.eat_signs.ensures in
    let took = subst (λ z. Took (Some z) c.parts.cursor c.take.new.self) c.in-Some-eq34.field-0-test c.in-Some-eq34.ensures.took in
    let whole = sym c.checkpoint-start.ensures.rest ∙ c.slice_between.ensures.result ∙ ap (λ z. c.slice_between.result ++ z) c.checkpoint-end.ensures.rest in
    let close = took.0 ∙ ap (λ z. 34 ∷ z) (did.reads.text ∙ ap (λ k. times k 35 ++ c.eat_signs.new.cursor.rest) c.if-eat_signs-signs.true) in
    let units = subst (λ z. RawUnits (closing 1 c.args.signs) c.args.cursor.now.rest c.parts.cursor.rest (literals z)) (raw_read _ _ _ i _ whole) i.units in
    let (found, only) = line_ends c.args.signs _ _ _ c.slice_between.result units close in
    let moved = c.slice_between.ensures.moved in
    let rest = ap (λ z. z.rest) moved in
    record { found = rw rest found; only = rw rest only; past = cut_past _ _ _ _ _ _ whole i.past took did.past moved }

pub returns-in-Some-2 : goal.returns-in-Some-2
returns-in-Some-2 c = record {
  found = tt;
  only = line_stuck c.args.signs _ _ _ _ _ c.parts.invariant.units c.in-Some.ensures.took.0 c.in-Some.c-test.1 (sym c.is_raw.ensures ∙ c.if-is_raw.false);
  past = past_more (omega arith) (past_four (raw_past _ _ _ c.parts.invariant _ _ c.in-Some.ensures.took));
}

pub returns-in-None : goal.returns-in-None
returns-in-None c =
    let (none, past) = raw_runs_out _ _ _ c.parts.invariant _ c.in-None.ensures.took in
    record { found = tt; only = λ r w. none r (literals w); past = past_more (omega arith) (past_four past) }
