use Rattle.std.proofs.Common.{length}
use Rattle.kdl_parser.proofs.Answering.Turns.{Reading}
use Rattle.kdl_parser.proofs.token_loop.build.Given as goal

abbrev pub invariant-tokens : goal.invariant-tokens
invariant-tokens g l = Reading g.N.ParsedNode.tree l.fn.builder.cursor l.builder

abbrev pub decreases-tokens : goal.decreases-tokens
decreases-tokens g l = length l.builder.cursor.rest
