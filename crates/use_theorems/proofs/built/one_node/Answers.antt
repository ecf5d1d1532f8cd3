use Rattle.std.proofs.Common.{ℕ, ap, sym, ◌∙◌}
use Rattle.kdl.specs.Words.{identifier_tree, value_at}
use Rattle.kdl.proofs.Finding.SaidLookups.{argument_said, property_said}
use Rattle.use_theorems.proofs.MadeNodes.{new_count}
use Rattle.use_theorems.proofs.built.one_node.Goals as goal

pub returns-clause-argument : goal.returns-clause-argument
returns-clause-argument c =
    let none = new_count c.in_ok-node.node (identifier_tree c.in_ok-from_text.field-0) c.in_ok-node.ensures.made in
    sym (argument_said 0 c.insert_property.new.node) ∙ c.in_ok-insert_property.ensures.sets.arguments 0
    ∙ ap (λ (i : ℕ). value_at i c.add_argument.new.node) (sym none) ∙ c.in_ok-add_argument.ensures.adds.found

pub returns-clause-property : goal.returns-clause-property
returns-clause-property c = sym (property_said c.args.property.now c.insert_property.new.node c.utf8.property) ∙ c.in_ok-insert_property.ensures.sets.found
