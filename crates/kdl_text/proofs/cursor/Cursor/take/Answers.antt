use Rattle.std.proofs.Common.{arith, ◌∷◌, []}
use Rattle.kdl_text.proofs.Looking.Parts.{part_past}
use Rattle.kdl_text.proofs.cursor.Cursor.take.Goals as goal

pub invariant_of-self : goal.invariant_of-self
invariant_of-self c = let (e, l) = c.in-Some.ensures.parts in (omega (arith, c.self.invariant.0, l), part_past _ _ (c.in-Some.c ∷ []) _ c.self.invariant.1 e)
