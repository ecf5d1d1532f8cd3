use Rattle.kdl_syntax.specs.Internal.Handed.{kind_view}
use Rattle.kdl_parser.proofs.Stepping.Dropped.{refuses_like}
use Rattle.kdl_parser.proofs.builder.Builder.drop_token.Goals as goal

pub returns-else-branch : goal.returns-else-branch
returns-else-branch g c = refuses_like g.N.ParsedNode.tree c.args.self.now c.take.new.self (kind_view c.args.kind.now) c.args.at.now c.requires.reading c.requires.here (rw c.if-branch.false at c.in_ok-take.ensures)
