-- A node that is put into a block, in the data.
use Rattle.std.proofs.Common.{◌≡◌, length, List, [], ◌∷◌, map, Option, None, Some, option_map, refl, ap, ◌∙◌, sym}
use Rattle.kdl_entry.specs.Tree.{entry_data, identifier_tree}
use Rattle.kdl_grammar.specs.Data as nodes'
use Rattle.kdl_grammar.specs.Tree.{children_data, children_of, document_data, node_data, nodes_data}
use Rattle.kdl_parts.specs.declared.format.KdlNodeFormat.{KdlNodeFormat}
use Rattle.kdl.specs.Change.{with_children, with_format}
use Rattle.kdl.specs.Cleared.{new_document}
use Rattle.kdl.specs.DocumentLookups.{nodes_of}
use Rattle.kdl.specs.Fields.{block_of}
use Rattle.kdl.specs.Iterators.{child_nodes, nodes_in}
use Rattle.kdl.specs.Nodes.{ChildPut, ChildPutIn, said_with}
use Rattle.kdl.specs.Tree.{document_says, document_tree, head_tree, node_says, nodes_tree}
use Rattle.kdl.specs.declared.document.KdlDocument.{KdlDocument}
use Rattle.kdl.specs.declared.document.KdlDocument.TheViews.{out-KdlNode, out-roll-KdlNode, roll-KdlNode}
use Rattle.kdl.specs.declared.node.KdlNode.{KdlNode}
use Rattle.kdl.proofs.Putting.Puts.{put_says}
use Rattle.kdl.proofs.Trees.{NodeFields, document_tree_out, node_tree_out, node_tree_roll}
use Rattle.kdl_path.specs.Edits.{node_with_child, with_last}
use Rattle.kdl_path.specs.Internal.Changed.{IsChildPushed}
use Rattle.kdl_path.specs.Internal.Laid.{IsLaid}
use Rattle.kdl.specs.ReadsBack.{NodeReadsBack, ReadsAs}

-- one more at the end
said_last : (ns : List KdlNode) (x : nodes'.Node) → said_with (length ns) x (nodes_data (nodes_tree ns)) ≡ with_last x (nodes_data (nodes_tree ns))
said_last [] x = refl
said_last (n ∷ ns) x = ap (nodes'.first (node_says n)) (said_last ns x)

pub document_said_last : (d : KdlDocument) (x : nodes'.Node) → said_with (length (nodes_of d)) x (document_says d) ≡ with_last x (document_says d)
document_said_last d x =
    let own : document_says d ≡ nodes_data (nodes_tree (nodes_of d)) = ap document_data (document_tree_out d) in
    ap (said_with (length (nodes_of d)) x) own ∙ said_last (nodes_of d) x ∙ ap (with_last x) (sym own)

-- a node with one more child
abbrev fields_say : NodeFields → nodes'.Children → nodes'.Node
fields_say x c = nodes'.node (option_map (λ i. i.value) (option_map identifier_tree x.ty)) (identifier_tree x.name).value (map entry_data (head_tree x).entries) c

own_says : (n : KdlNode) (o : Option KdlDocument) → block_of n ≡ o → node_says n ≡ fields_say (out-KdlNode n) (children_data (children_of (option_map document_tree o)))
own_says n o h = ap node_data (node_tree_out n) ∙ ap (λ (o : Option KdlDocument). fields_say (out-KdlNode n) (children_data (children_of (option_map document_tree o)))) h

new_child : (c n m : KdlNode) (d e : KdlDocument) (g : Option KdlNodeFormat) → block_of n ≡ None → document_tree d ≡ new_document → document_says e ≡ said_with 0 (node_says c) (document_says d) → m ≡ with_children (with_format n g) (Some e)
    → node_says m ≡ node_with_child (node_says c) (node_says n)
new_child c n m d e g none new put is =
    let X = out-KdlNode n in
    ap node_says is
    ∙ ap (λ (x : NodeFields). node_says (roll-KdlNode (record x { children = Some e }))) (out-roll-KdlNode (record X { format = g }))
    ∙ ap node_data (node_tree_roll (record X { format = g; children = Some e }))
    ∙ ap (λ y. fields_say X (nodes'.children y)) (put ∙ ap (said_with 0 (node_says c)) (ap document_data new))
    ∙ sym (ap (node_with_child (node_says c)) (own_says n None none))

more_child : (c n m : KdlNode) (d e : KdlDocument) → block_of n ≡ Some d → document_says e ≡ with_last (node_says c) (document_says d) → m ≡ with_children n (Some e) → node_says m ≡ node_with_child (node_says c) (node_says n)
more_child c n m d e there put is =
    let X = out-KdlNode n in
    ap node_says is
    ∙ ap node_data (node_tree_roll (record X { children = Some e }))
    ∙ ap (λ y. fields_say X (nodes'.children y)) put
    ∙ sym (ap (node_with_child (node_says c)) (own_says n (Some d) there))

pub put_child_says : (c n m : KdlNode) → ChildPut (length (child_nodes n)) c n m → node_says m ≡ node_with_child (node_says c) (node_says n)
put_child_says c n m h = go (block_of n) refl h
  where
    go : (o : Option KdlDocument) → block_of n ≡ o → ChildPutIn o (length (nodes_in o)) c n m → node_says m ≡ node_with_child (node_says c) (node_says n)
    go None e h = new_child c n m h.0 h.1 h.2 e h.3 (put_says 0 c h.0 h.1 h.4) h.6
    go (Some d) e h = more_child c n m d h.0 e (put_says (length (nodes_of d)) c d h.0 h.1 ∙ document_said_last d (node_says c)) h.2

-- a child put into a node after the texts around it are changed
pub child_pushed : (c n k m : KdlNode) → IsLaid n k → ChildPut (length (child_nodes k)) c k m → (NodeReadsBack c → ReadsAs k m) → IsChildPushed c n m
child_pushed c n k m l put reads = record {
  says = put_child_says c k m put ∙ ap (node_with_child (node_says c)) l.says;
  reads = λ r P x. reads r P (l.reads P x);
}
