use Rattle.std.proofs.Common.{arith}
use Rattle.std.specs.Str.{chars}
use Rattle.kdl_diagnostics.proofs.ReaderCost.{steps_bounded}
use Rattle.kdl_diagnostics.proofs.told.recovered.Goals as goal

pub find-answer-requires : goal.find-answer-requires
find-answer-requires c = (chars c.args.text.now, c.new-reader.ensures.reads)

pub returns-in_err-answer-clause-counted : goal.returns-in_err-answer-clause-counted
returns-in_err-answer-clause-counted c =
    let k = c.find-answer.ensures.goes (chars c.args.text.now) c.new-reader.ensures.reads in
    let n = c.new-reader.ensures.counted in
    steps_bounded c.args.text.now _ _ _ _ c.utf8.text k.counted (record { most = omega (arith, n.most, c.replace.ensures.value); counts = omega (arith, n.counts, c.replace.ensures.value) }) c.into_steps.ensures

pub returns-clause-counted : goal.returns-clause-counted
returns-clause-counted c =
    let k = c.find-answer.ensures.goes (chars c.args.text.now) c.new-reader.ensures.reads in
    let n = c.new-reader.ensures.counted in
    steps_bounded c.args.text.now _ _ _ _ c.utf8.text k.counted (record { most = omega (arith, n.most, c.replace.ensures.value); counts = omega (arith, n.counts, c.replace.ensures.value) }) c.into_steps.ensures

pub returns-clause-noted : goal.returns-clause-noted
returns-clause-noted c =
    let k = c.find-answer.ensures.goes (chars c.args.text.now) c.new-reader.ensures.reads in
    (k.keeps (chars c.args.text.now) c.new-reader.ensures.reads tt).notes.faults

pub returns-clause-some : goal.returns-clause-some
returns-clause-some c = c.in_ok-answer.ensures.noted (c.new-reader.ensures.ready c.requires.stopped)
