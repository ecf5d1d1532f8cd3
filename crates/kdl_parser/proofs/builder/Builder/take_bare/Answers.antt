use Rattle.kdl_parser.proofs.Stepping.Events.{takes_name}
use Rattle.kdl_parser.proofs.builder.Builder.take_bare.Goals as goal

pub returns-in-Gap : goal.returns-in-Gap
returns-in-Gap g c = takes_name g.N.ParsedNode.tree c.args.self.now c.name_bare.new.self c.args.at.now c.name_bare.result c.args.word.now c.requires.here.building c.in-Gap.is c.requires.reads c.name_bare.ensures
