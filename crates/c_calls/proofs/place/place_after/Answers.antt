use Rattle.std.proofs.Common.{arith, ◌∷◌, sym, ◌∙◌, map-id, subst}
use Rattle.kdl.specs.Words.{Text}
use Rattle.std.proofs.lemmas.Iterator.{YieldsList-from_chars}
use Rattle.std.proofs.lemmas.Iterator.Consumers.{YieldsList-end}
use Rattle.std.proofs.lemmas.List.{length_push}
use Rattle.c_calls.specs.Internal.Places.{IsAfter}
use Rattle.c_calls.proofs.PositionSteps.{after_more}
use Rattle.c_calls.proofs.place.place_after.Goals as goal

pub loop-c-preserved : goal.loop-c-preserved
loop-c-preserved c =
    let y = c.loop-c.yielded in
    let i = c.loop-c.invariant in
    let s = c.step-place in
    record {
      after = λ r. after_more y r c.in-Some.c c.loop-c.place s.result (s.ensures.moved r) (i.after (c.in-Some.c ∷ r));
      line = omega (arith, length_push y c.in-Some.c, i.line, s.ensures.line);
      column = omega (arith, length_push y c.in-Some.c, i.column, s.ensures.column);
      least = s.ensures.least;
    }

pub returns-clause-after : goal.returns-clause-after
returns-clause-after c = λ r.
    let t = YieldsList-end (YieldsList-from_chars c.args.text.now c.utf8.text cc) c.loop-c.yielded _ c.loop-c.yielded_by _ _ c.in-None.is c.next.ensures.steps in
    subst (λ (s : Text). IsAfter s r c.loop-c.place) (sym (map-id c.loop-c.yielded) ∙ t.0) (c.loop-c.invariant.after r)
