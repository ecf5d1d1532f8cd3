use Rattle.kdl_syntax.specs.Tokens.{string}
use Rattle.kdl_parser.proofs.Stepping.StepsDone.{looked_takes}
use Rattle.kdl_parser.proofs.builder.Builder.take_word.Goals as goal

pub returns-then-is_building : goal.returns-then-is_building
returns-then-is_building g c = looked_takes g.N.ParsedNode.tree c.args.self.now c.take_bare.new.self c.look.new.self (string c.args.word.now) c.args.at.now c.take_bare.result c.look.ensures.moved c.take_bare.ensures

pub returns-else-is_building : goal.returns-else-is_building
returns-else-is_building g c = looked_takes g.N.ParsedNode.tree c.args.self.now c.drop_word.new.self c.look.new.self (string c.args.word.now) c.args.at.now c.drop_word.result c.look.ensures.moved c.drop_word.ensures
