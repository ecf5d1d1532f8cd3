use Rattle.kdl_syntax.specs.Internal.Handed.{kind_view}
use Rattle.kdl_parser.proofs.Stepping.StepsDone.{looked_takes}
use Rattle.kdl_parser.proofs.builder.Builder.take.Goals as goal

pub returns-then-is_building : goal.returns-then-is_building
returns-then-is_building g c = looked_takes g.N.ParsedNode.tree c.args.self.now c.take_live.new.self c.look.new.self (kind_view c.args.kind) c.args.at.now c.take_live.result c.look.ensures.moved c.take_live.ensures

pub returns-else-is_building : goal.returns-else-is_building
returns-else-is_building g c = looked_takes g.N.ParsedNode.tree c.args.self.now c.take_dropped.new.self c.look.new.self (kind_view c.args.kind) c.args.at.now c.take_dropped.result c.look.ensures.moved c.take_dropped.ensures
