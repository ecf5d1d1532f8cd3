use Rattle.std.proofs.Common.{arith}
use Rattle.kdl_syntax.proofs.Lexing.TokenCost.{failed_costs}
use Rattle.kdl_syntax.proofs.Lexing.TokenReads.{no_raw_here}
use Rattle.kdl_syntax.proofs.lexer.raw_token.Goals as goal

pub returns-in-Err-clause-costs : goal.returns-in-Err-clause-costs
returns-in-Err-clause-costs c = failed_costs 4 9 21 c.lex_failure.result c.args.cursor.now c.raw_string.new.cursor c.in-Err.ensures.costs c.in-Err.ensures.moves (omega arith) (omega arith)

pub returns-in-Err-clause-read : goal.returns-in-Err-clause-read
returns-in-Err-clause-read c = no_raw_here _ _ _ _ c.requires.sign c.requires.second (λ r v q. c.in-Err.ensures.only r v q) c.lex_failure.ensures
