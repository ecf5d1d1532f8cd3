use Rattle.kdl_syntax.proofs.Lexing.TokenCost.{two_looks}
use Rattle.kdl_syntax.proofs.lexer.signed_token.Goals as goal

pub returns-then-begins_number-clause-costs : goal.returns-then-begins_number-clause-costs
returns-then-begins_number-clause-costs c =
    let looks = c.begins_number.ensures.stayed in
    two_looks looks.0 c.number_token.result c.args.cursor.now c.begins_number.new.cursor c.number_token.new.cursor looks.1 looks.2 c.number_token.ensures.moves c.number_token.ensures.costs

pub returns-else-begins_number-clause-costs : goal.returns-else-begins_number-clause-costs
returns-else-begins_number-clause-costs c =
    let looks = c.begins_number.ensures.stayed in
    two_looks looks.0 c.bare_token.result c.args.cursor.now c.begins_number.new.cursor c.bare_token.new.cursor looks.1 looks.2 c.bare_token.ensures.moves c.bare_token.ensures.costs
