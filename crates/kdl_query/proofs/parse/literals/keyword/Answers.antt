use Rattle.kdl_query.proofs.Testing.{keyword_piece, no_keyword_piece}
use Rattle.kdl_query.proofs.parse.literals.keyword.Goals as goal

pub returns-in_ok-keyword_value-in-Some : goal.returns-in_ok-keyword_value-in-Some
returns-in_ok-keyword_value-in-Some c = record { returns = keyword_piece _ _ c.in-Some.keyword _ c.in-Some.ensures.reads c.in_ok-keyword_value-in-Some.ensures; moves = c.in-Some.ensures.moves }

pub returns-in-None : goal.returns-in-None
returns-in-None c = record { returns = no_keyword_piece _ c.read_keyword.new.cursor.rest c.requires c.in-None.ensures.reads; moves = c.in-None.ensures.moves }
