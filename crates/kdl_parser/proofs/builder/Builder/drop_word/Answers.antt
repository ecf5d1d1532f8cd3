use Rattle.std.proofs.Common.{refl}
use Rattle.kdl_syntax.specs.Tokens.{string}
use Rattle.kdl_parser.proofs.builder.Builder.drop_word.Goals as goal

pub returns-in-Some : goal.returns-in-Some
returns-in-Some g c = c.in-Some.ensures (string c.args.word.now) (c.args.word.now, refl)
