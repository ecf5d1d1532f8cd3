use Rattle.kdl_text.proofs.Looking.MovesJoin.{moves_then}
use Rattle.kdl_query.proofs.Noding.{name_after, no_name_after}
use Rattle.kdl_query.proofs.parse.selectors.name_after_type.Goals as goal

pub returns-then-ends_type : goal.returns-then-ends_type
returns-then-ends_type c = record { returns = no_name_after _ _ c.if-ends_type.ensures.rest c.if-ends_type.ensures.result; moves = c.ends_type.ensures.moves }

pub returns : goal.returns
returns c = record { returns = name_after _ _ _ _ c.if-ends_type.ensures.rest c.if-ends_type.ensures.result c.in_ok-read_name.ensures.returns; moves = moves_then c.ends_type.ensures.moves c.read_name.ensures.moves }
