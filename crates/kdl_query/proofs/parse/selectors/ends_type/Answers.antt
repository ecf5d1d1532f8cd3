use Rattle.std.proofs.Common.{sym, ap, ◌∙◌}
use Rattle.std.specs.Prelude.{Some}
use Rattle.kdl_text.specs.Internal.Here.{first, tail}
use Rattle.kdl_query.proofs.Noding.{bar_ends_type}
use Rattle.kdl_query.proofs.parse.selectors.ends_type.Goals as goal

pub returns-in-Some-eq124-clause-result : goal.returns-in-Some-eq124-clause-result
returns-in-Some-eq124-clause-result c =
    c.eq.ensures ∙ bar_ends_type c.args.cursor.now.rest _ (sym (ap Some c.in-Some-eq124.field-0-test) ∙ sym c.in-Some-eq124.is ∙ c.look.ensures.result)
    (c.look_second.ensures.result ∙ ap (λ z. first (tail z.rest)) c.look.ensures.moved)
