use Rattle.kdl_parts.proofs.Common.{◌∙◌, sym, identifier_tree, entry_tree}
use Rattle.kdl_parts.proofs.EntryEdits.{own_name, given_name}
use Rattle.kdl_parts.proofs.edit.named.Goals as goal

pub returns-then-has_name : goal.returns-then-has_name
returns-then-has_name c =
    own_name (λ i. identifier_tree i.now) c.name.result (entry_tree c.args.entry) (identifier_tree c.args.key) c.name.ensures (sym c.is_some-has_name.ensures ∙ c.if-has_name.true)

pub returns : goal.returns
returns c =
    c.set_name.ensures
    ∙ given_name (λ i. identifier_tree i.now) c.name.result (entry_tree c.args.entry) (identifier_tree c.args.key) c.name.ensures (sym c.is_some-has_name.ensures ∙ c.if-has_name.false)
