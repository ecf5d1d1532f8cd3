use Rattle.std.proofs.Common.{arith}
use Rattle.kdl_text.proofs.Looking.Parts.{part_past}
use Rattle.kdl_text.proofs.cursor.Cursor.skip.Goals as goal

pub invariant_of-self : goal.invariant_of-self
invariant_of-self c = let r = c.skip_class-count.ensures in (omega (arith, c.self.invariant.0, r.len), part_past _ _ r.run _ c.self.invariant.1 r.text)
