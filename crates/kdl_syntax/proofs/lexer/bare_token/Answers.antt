use Rattle.std.proofs.Common.{arith}
use Rattle.kdl_syntax.proofs.Lexing.TokenCost.{faulty_costs}
use Rattle.kdl_syntax.proofs.Lexing.TokenReads.{no_bare_here}
use Rattle.kdl_syntax.proofs.lexer.bare_token.Goals as goal

pub returns-in-None-clause-read : goal.returns-in-None-clause-read
returns-in-None-clause-read c = no_bare_here _ c.bare_string.new.cursor.rest c.requires.word c.requires.no_number c.in-None.ensures.only

pub returns-in-None-clause-costs : goal.returns-in-None-clause-costs
returns-in-None-clause-costs c = faulty_costs 2 4 20 c.args.cursor.now c.bare_string.new.cursor c.bare_string.ensures.costs c.bare_string.ensures.moves (omega arith) (omega arith)
