use Rattle.kdl_syntax.specs.Internal.Handed.{kind_view}
use Rattle.kdl_parser.proofs.Stepping.Dropped.{like_same}
use Rattle.kdl_parser.proofs.builder.Builder.take_dropped.Goals as goal

pub returns-in-Some : goal.returns-in-Some
returns-in-Some g c = c.in-Some.ensures (kind_view c.args.kind) (like_same (kind_view c.args.kind))
