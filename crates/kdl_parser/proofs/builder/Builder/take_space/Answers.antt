use Rattle.kdl_syntax.specs.Tokens.{space}
use Rattle.kdl_parser.proofs.Stepping.StepsDone.{looked_takes}
use Rattle.kdl_parser.proofs.builder.Builder.take_space.Goals as goal

pub returns-then-is_building : goal.returns-then-is_building
returns-then-is_building g c = looked_takes g.N.ParsedNode.tree c.args.self.now c.take_blank.new.self c.look.new.self space c.args.at.now c.take_blank.result c.look.ensures.moved c.take_blank.ensures

pub returns-else-is_building : goal.returns-else-is_building
returns-else-is_building g c = looked_takes g.N.ParsedNode.tree c.args.self.now c.drop_space.new.self c.look.new.self space c.args.at.now c.drop_space.result c.look.ensures.moved c.drop_space.ensures
