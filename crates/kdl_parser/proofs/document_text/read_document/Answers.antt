use Rattle.std.proofs.Common.{arith}
use Rattle.std.specs.Str.{chars}
use Rattle.kdl_parser.proofs.Answering.Accepted.{accepted_document}
use Rattle.kdl_parser.proofs.Answering.Outcomes.{refused, told_counted}
use Rattle.kdl_parser.proofs.Answering.Parsing.{parsed, not_parsed, out_of_memory}
use Rattle.kdl_parser.proofs.document_text.read_document.Goals as goal

pub returns-in-Ok-clause-parses : goal.returns-in-Ok-clause-parses
returns-in-Ok-clause-parses g c = parsed c.args.text.now c.in-Ok.document c.args.steps.now c.read_counted.new.steps c.utf8.text (rw c.in-Ok.is at c.read_counted.ensures.counted) c.read_counted.ensures.raised

pub returns-in-Err-Faulty-clause-parses : goal.returns-in-Err-Faulty-clause-parses
returns-in-Err-Faulty-clause-parses g c =
    let a = rw (c.in-Err-Faulty.is, c.in-Err-Faulty.field-0-is) at c.read_counted.ensures.answers in
    not_parsed c.args.text.now c.failure.result c.args.steps.now c.failure.new.steps (refused (chars c.args.text.now) a) c.failure.ensures.tells
    (told_counted c.args.text.now c.args.steps.now c.read_counted.new.steps c.failure.new.steps c.failure.result c.utf8.text (rw (c.in-Err-Faulty.is, c.in-Err-Faulty.field-0-is) at c.read_counted.ensures.counted) c.failure.ensures.most) (omega (arith, c.read_counted.ensures.raised, c.failure.ensures.raised))

pub returns-in-Err-Memory-clause-parses : goal.returns-in-Err-Memory-clause-parses
returns-in-Err-Memory-clause-parses g c = out_of_memory c.args.text.now c.args.steps.now c.read_counted.new.steps c.read_counted.ensures.raised

pub failure-requires : goal.failure-requires
failure-requires g c x =
    let a = rw (c.in-Err-Faulty.is, c.in-Err-Faulty.field-0-is) at c.read_counted.ensures.answers in
    let d = accepted_document x in
    refused (chars c.args.text.now) a d.0 d.1
