use Rattle.std.proofs.Common.{arith, ◌∷◌, []}
use Rattle.kdl_text.proofs.Looking.Parts.{part_past}
use Rattle.kdl_text.proofs.cursor.Cursor.eat.Goals as goal

pub invariant_of-self : goal.invariant_of-self
invariant_of-self c = let p = c.in-Some.ensures.past in (omega (arith, c.self.invariant.0, p.len), part_past _ _ (c.args.c ∷ []) _ c.self.invariant.1 p.text)
