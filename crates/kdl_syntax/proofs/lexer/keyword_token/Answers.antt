use Rattle.std.proofs.Common.{arith}
use Rattle.kdl_syntax.proofs.Lexing.TokenCost.{faulty_costs}
use Rattle.kdl_syntax.proofs.Lexing.TokenReads.{a_keyword_here, no_keyword_here, keyword_costs}
use Rattle.kdl_syntax.proofs.lexer.keyword_token.Goals as goal

pub returns-in_ok-keyword_value-in-Some-clause-read : goal.returns-in_ok-keyword_value-in-Some-clause-read
returns-in_ok-keyword_value-in-Some-clause-read c = a_keyword_here _ _ c.in-Some.keyword _ c.in-Some.ensures.reads c.in_ok-keyword_value-in-Some.ensures

pub returns-in_ok-keyword_value-in-Some-clause-costs : goal.returns-in_ok-keyword_value-in-Some-clause-costs
returns-in_ok-keyword_value-in-Some-clause-costs c = keyword_costs c.in-Some.keyword _ _ c.in-Some.ensures.reads c.in-Some.ensures.moves c.in-Some.ensures.costs

pub returns-in-None-clause-read : goal.returns-in-None-clause-read
returns-in-None-clause-read c = no_keyword_here _ c.read_keyword.new.cursor.rest c.read_keyword.new.cursor.rest c.requires.sign c.requires.second c.in-None.ensures.reads

pub returns-in-None-clause-costs : goal.returns-in-None-clause-costs
returns-in-None-clause-costs c = faulty_costs 4 4 21 c.args.cursor.now c.read_keyword.new.cursor c.read_keyword.ensures.most c.read_keyword.ensures.moves (omega arith) (omega arith)
