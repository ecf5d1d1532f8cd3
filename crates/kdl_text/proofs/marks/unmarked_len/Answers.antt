use Rattle.std.proofs.Common.{arith}
use Rattle.kdl_text.specs.Internal.Marks.{is_mark}
use Rattle.kdl_text.proofs.Looking.Vectors.{none_outside, first_found}
use Rattle.kdl_text.proofs.marks.unmarked_len.Goals as goal

pub returns-then-found-ne0 : goal.returns-then-found-ne0
returns-then-found-ne0 c = first_found (is_mark c.args.marks) c.args.bytes.now c.vectors.count c.found-found.result (omega arith) c.found-found.ensures (omega arith) c.vectors.invariant.1

pub vectors-preserved : goal.vectors-preserved
vectors-preserved c = (omega arith, none_outside (is_mark c.args.marks) c.args.bytes.now c.vectors.count c.found-found.result (omega arith) c.found-found.ensures c.if-found-ne0.false c.vectors.invariant.1)
