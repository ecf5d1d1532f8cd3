use Rattle.std.proofs.Common.{arith, ◌∷◌, []}
use Rattle.kdl_text.proofs.Looking.Parts.{part_past}
use Rattle.kdl_text.proofs.cursor.Cursor.step.Goals as goal

pub invariant_of-self : goal.invariant_of-self
invariant_of-self c = let (e, l) = c.in-Some.ensures.parts in (omega (arith, c.self.invariant.0, l), part_past _ _ (c.in-Some.field-0-0 ∷ []) _ c.self.invariant.1 e)
