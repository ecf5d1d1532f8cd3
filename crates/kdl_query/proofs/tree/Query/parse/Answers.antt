use Rattle.std.proofs.Common.{map, subst}
use Rattle.std.specs.Str.{chars}
use Rattle.kdl_text.specs.Internal.Here.{Here}
use Rattle.kdl_query.specs.QueryText.{IsQuery}
use Rattle.kdl_query.specs.Tree.{selector_says}
use Rattle.kdl_query.proofs.Printing.Queries.{printed_again}
use Rattle.kdl_query.proofs.Unique.{query_det}
use Rattle.kdl_query.proofs.tree.Query.parse.Goals as goal

pub returns-in-Ok-clause-only : goal.returns-in-Ok-clause-only
returns-in-Ok-clause-only c = λ x h. query_det h (subst (λ (z : Here). IsQuery z.rest (map selector_says c.in-Ok.selectors.items)) c.new-cursor.ensures c.in-Ok.ensures.reads)

pub returns-in-Ok-clause-printed : goal.returns-in-Ok-clause-printed
returns-in-Ok-clause-printed c =
    printed_again (chars c.args.text.now) (record { selectors = c.in-Ok.selectors }) (subst (λ (z : Here). IsQuery z.rest (map selector_says c.in-Ok.selectors.items)) c.new-cursor.ensures c.in-Ok.ensures.reads)
