use Rattle.std.specs.Str.{chars}
use Rattle.kdl_parser.proofs.Answering.Accepted.{accepted_node}
use Rattle.kdl_parser.proofs.node_text.read_node_text.Goals as goal

pub failure-requires : goal.failure-requires
failure-requires g c x =
    let a = rw (c.in-Err-Faulty.is, c.in-Err-Faulty.field-0-is) at c.read_whole.ensures in
    let d = accepted_node (chars c.args.text.now) x in
    a d.0 d.1
