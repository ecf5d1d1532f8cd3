use Rattle.std.proofs.Common.{ap}
use Rattle.std.specs.Str.{chars}
use Rattle.kdl_text.specs.Internal.Here.{Here}
use Rattle.kdl_entry.proofs.Reading.Accepted.{accepted_entry}
use Rattle.kdl_entry.proofs.Reading.EntryAnswers.{refused}
use Rattle.kdl_entry.proofs.entry.KdlEntry.parse.Goals as goal

pub failure-requires : goal.failure-requires
failure-requires c x =
    let a = rw (c.in-Err-Faulty.is, c.in-Err-Faulty.field-0-is, ap (λ (h : Here). h.text) c.new-2.ensures) at c.read_tokens.ensures in
    let d = accepted_entry (chars c.args.text.now) x in
    refused (chars c.args.text.now) a d.0 d.1

pub returns-in-Err-Faulty-clause-refused : goal.returns-in-Err-Faulty-clause-refused
returns-in-Err-Faulty-clause-refused c s =
    refused (chars c.args.text.now) (rw (c.in-Err-Faulty.is, c.in-Err-Faulty.field-0-is, ap (λ (h : Here). h.text) c.new-2.ensures) at c.read_tokens.ensures)
