use Rattle.kdl_query.specs.Tree.{accessor_says}
use Rattle.kdl_query.proofs.Reading.{passed_on}
use Rattle.kdl_query.proofs.parse.tests.read_word.Goals as goal

pub returns-in_err-close : goal.returns-in_err-close
returns-in_err-close c = passed_on accessor_says c.from_residual.result c.in_err-close.field-0.0 _ _ c.from_residual.ensures.1 c.in_err-close.ensures c.in_err-close.ensures.moves (λ n r y k. n r tt k.closes)
