use Rattle.std.proofs.Common.{◌∙◌, [], None, ap, subst, sym}
use Rattle.std.specs.Str.{chars}
use Rattle.kdl_grammar.specs.Data as data'
use Rattle.kdl_grammar.specs.Tree.{node_data}
use Rattle.kdl_entry.specs.Tree.{Identifier, identifier_tree}
use Rattle.kdl.specs.Words.{NodeReadsBack, node_says}
use Rattle.kdl.specs.declared.node.KdlNode.{KdlNode}
use Rattle.kdl_path.proofs.Ends.{bare_node, formatted_says}
use Rattle.kdl_path.proofs.create.new_named.Goals as goal

pub returns-clause-says : goal.returns-clause-says
returns-clause-says c =
    ap node_says c.set_format.ensures ∙ formatted_says c.in_ok-node.node _ ∙ ap node_data c.in_ok-node.ensures.made
    ∙ ap (λ (i : Identifier). data'.node None i.value [] data'.no_children) c.in_ok-from_text.ensures ∙ ap (λ t. data'.node None (chars t) [] data'.no_children) c.deref.ensures

pub returns-clause-reads : goal.returns-clause-reads
returns-clause-reads c =
    let name = c.in_ok-from_text.field-0 in
    subst (λ (k : KdlNode). NodeReadsBack k) (sym c.set_format.ensures)
    (bare_node c.in_ok-node.node (identifier_tree name) c.new-format.result c.in_ok-node.ensures.made c.new-format.ensures (c.in_ok-node.ensures.ends (ap (λ (i : Identifier). i.repr) c.in_ok-from_text.ensures)))
