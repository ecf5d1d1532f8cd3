use Rattle.std.proofs.Common.{refl}
use Rattle.kdl_syntax.specs.Tokens.{space}
use Rattle.kdl_parser.proofs.builder.Builder.drop_space.Goals as goal

pub returns-in-Some : goal.returns-in-Some
returns-in-Some g c = c.in-Some.ensures space refl
