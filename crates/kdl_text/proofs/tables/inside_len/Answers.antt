use Rattle.std.proofs.Common.{arith, subst}
use Rattle.std.proofs.lemmas.List.{take_rest}
use Rattle.kdl_text.specs.Internal.Tables.{Until, outside}
use Rattle.kdl_text.proofs.Looking.Vectors.{none_outside, first_found, until_after}
use Rattle.kdl_text.proofs.tables.inside_len.Goals as goal

pub returns-then-found-ne0 : goal.returns-then-found-ne0
returns-then-found-ne0 c = first_found (outside c.args.table.now) c.args.bytes.now c.vectors.count c.outsiders-found.result (omega arith) c.outsiders-found.ensures (omega arith) c.vectors.invariant.1

pub vectors-preserved : goal.vectors-preserved
vectors-preserved c = (omega arith, none_outside (outside c.args.table.now) c.args.bytes.now c.vectors.count c.outsiders-found.result (omega arith) c.outsiders-found.ensures c.if-found-ne0.false c.vectors.invariant.1)

pub returns : goal.returns
returns c =
    let found = subst (λ s. Until (outside c.args.table.now) s c.inside_front.result) (take_rest c.args.bytes.now c.vectors.count) c.inside_front.ensures in
    until_after (outside c.args.table.now) c.args.bytes.now c.vectors.count c.inside_front.result (omega (arith, c.vectors.invariant.0)) c.vectors.invariant.1 found
