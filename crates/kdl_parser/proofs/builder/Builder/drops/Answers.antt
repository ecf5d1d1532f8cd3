use Rattle.std.proofs.Common.{ap, ◌∙◌}
use Rattle.kdl_syntax.specs.Internal.Handed.{kind_view}
use Rattle.kdl_parser.specs.Internal.Building.{reading_view}
use Rattle.kdl_parser.proofs.Stepping.Dropped.{first_like}
use Rattle.kdl_parser.proofs.builder.Builder.drops.Goals as goal

pub returns-in-Nothing : goal.returns-in-Nothing
returns-in-Nothing g c =
    first_like g.N.ParsedNode.tree c.args.self.now c.put.new.place (kind_view c.args.kind.now) c.args.at.now c.drop_token.result c.drop_token.new.self c.in-Nothing.is (rw c.in-Nothing.is at c.requires)
    (ap reading_view c.put.ensures ∙ c.after_slashdash-dropped.ensures) c.drop_token.ensures
