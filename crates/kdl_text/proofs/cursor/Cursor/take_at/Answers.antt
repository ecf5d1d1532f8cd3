use Rattle.std.proofs.Common.{arith, ◌∷◌, []}
use Rattle.kdl_text.specs.Internal.Marks.{is_passed}
use Rattle.kdl_text.proofs.Looking.Parts.{part_past}
use Rattle.kdl_text.proofs.Looking.Marks.{took_after, took_none, unmarked_bytes}
use Rattle.kdl_text.proofs.cursor.Cursor.take_at.Goals as goal

pub returns-in-Some : goal.returns-in-Some
returns-in-Some c =
    let (e, l) = c.in-Some.ensures.parts in
    record {
      took = rw (← c.self.view_is) (took_after (is_passed c.args.marks) _ _ _ c.self.inside.at c.self.inside.steps _ c.skip_unmarked-rest.ensures c.raise.ensures _ c.in-Some.c e l);
      room = rw (← c.self.view_is) (omega (arith, c.self.invariant.0, unmarked_bytes (is_passed c.args.marks) _ _ c.skip_unmarked-rest.ensures c.in-Some.ensures.len));
    }

pub returns-in-None-clause-took : goal.returns-in-None-clause-took
returns-in-None-clause-took c = rw (← c.self.view_is) (took_none (is_passed c.args.marks) _ _ _ c.self.inside.at c.self.inside.steps _ c.skip_unmarked-rest.ensures c.raise.ensures c.in-None.ensures.parts)

pub invariant_of-self : goal.invariant_of-self
invariant_of-self c =
    let r = c.skip_unmarked-rest.ensures in
    let (e, l) = c.in-Some.ensures.parts in
    (omega (arith, c.self.invariant.0, r.len, l), part_past _ _ (c.in-Some.c ∷ []) _ (part_past _ _ r.run _ c.self.invariant.1 r.text) e)

pub invariant_of-self-in-None : goal.invariant_of-self-in-None
invariant_of-self-in-None c = let r = c.skip_unmarked-rest.ensures in (omega (arith, c.self.invariant.0, r.len), part_past _ _ r.run _ c.self.invariant.1 r.text)
