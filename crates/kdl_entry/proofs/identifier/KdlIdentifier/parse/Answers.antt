use Rattle.std.proofs.Common.{ap}
use Rattle.std.specs.Str.{chars}
use Rattle.kdl_text.specs.Internal.Here.{Here}
use Rattle.kdl_entry.proofs.Reading.Accepted.{accepted_identifier}
use Rattle.kdl_entry.proofs.identifier.KdlIdentifier.parse.Goals as goal

pub failure-requires : goal.failure-requires
failure-requires c x =
    let a = rw (c.in-Err-Faulty.is, c.in-Err-Faulty.field-0-is, ap (λ (h : Here). h.text) c.new-2.ensures) at c.read_token.ensures in
    let d = accepted_identifier (chars c.args.text.now) x in
    a d.0 d.1

pub returns-in-Err-Faulty-clause-refused : goal.returns-in-Err-Faulty-clause-refused
returns-in-Err-Faulty-clause-refused c s = rw (c.in-Err-Faulty.is, c.in-Err-Faulty.field-0-is, ap (λ (h : Here). h.text) c.new-2.ensures) at c.read_token.ensures
