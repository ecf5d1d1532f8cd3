-- What nodes print after their leading texts.
use Rattle.std.proofs.Common.{◌≡◌, ◌∙◌, ◌++◌, append_assoc, ap, drop, List, ℕ, Some, option_map, sym, string_bytes}
use Rattle.std.proofs.lemmas.List.{append_cancel_left}
use Rattle.std.proofs.lemmas.Str.{IsUtf8-string_bytes, encodes-append, encodes-chars}
use Rattle.std.specs.Str.{encode_utf8_all}
use Rattle.kdl.proofs.Trees.{node_tree_out}
use Rattle.kdl.specs.Tree.{head_tree}
use Rattle.kdl.specs.Words.{document_tree, node_format_of, node_format_tree, node_prints, node_tree, print_node, text_of, Text}
use Rattle.kdl.specs.declared.node.KdlNode.{KdlNode, out-KdlNode}
use Rattle.kdl_grammar.specs.Tree.{Children, Head, Node, NodeFormat, children, children_of, no_children, node}
use Rattle.kdl_parts.specs.declared.format.KdlNodeFormat.{KdlNodeFormat}
use Rattle.cli_shown.specs.Nodes.{node_text}

-- a front before several texts
before_three : (l t a i : Text) → l ++ t ++ a ++ i ≡ l ++ (t ++ a ++ i)
before_three l t a i = ap (λ (x : Text). x ++ i) (append_assoc l t a) ∙ append_assoc l (t ++ a) i

before_five : (l t a i p e : Text) → l ++ t ++ a ++ i ++ p ++ e ≡ l ++ (t ++ a ++ i ++ p ++ e)
before_five l t a i p e =
    ap (λ (x : Text). x ++ p ++ e) (before_three l t a i)
    ∙ ap (λ (x : Text). x ++ e) (append_assoc l (t ++ a ++ i) p)
    ∙ append_assoc l (t ++ a ++ i ++ p) e

-- a node with a format prints its leading text, and then the rest
led : (h : Head) (k : Children) (f : NodeFormat) → h.format ≡ Some f → print_node (node h k) 0 ≡ f.leading ++ node_text (node h k)
led h no_children f e = rw e (before_five f.leading _ _ _ _ _)
led h (children d) f e = rw e (before_five f.leading _ _ _ _ _)

pub printed_led : (n : KdlNode) (f : KdlNodeFormat) → node_format_of n ≡ Some f → node_prints n ≡ text_of f.leading ++ node_text (node_tree n)
printed_led n f e =
    let t = node_tree_out n in
    ap (λ (x : Node). print_node x 0) t
    ∙ led (head_tree (out-KdlNode n)) (children_of (option_map document_tree (out-KdlNode n).children)) (node_format_tree f) (ap (option_map node_format_tree) e)
    ∙ ap (λ (x : Node). text_of f.leading ++ node_text x) (sym t)

-- the same in bytes
pub printed_bytes : (n : KdlNode) (f : KdlNodeFormat) (bs : List ℕ) → node_format_of n ≡ Some f → bs ≡ encode_utf8_all (node_prints n) → bs ≡ string_bytes f.leading ++ encode_utf8_all (node_text (node_tree n))
printed_bytes n f bs e p =
    p ∙ ap encode_utf8_all (printed_led n f e) ∙ encodes-append (text_of f.leading) (node_text (node_tree n))
    ∙ ap (λ (t : List ℕ). t ++ encode_utf8_all (node_text (node_tree n))) (encodes-chars (string_bytes f.leading) (IsUtf8-string_bytes f.leading))

-- a text after its front
pub stripped : (front rest s x : List ℕ) (k : ℕ) → s ≡ front ++ rest → s ≡ front ++ drop k s → x ≡ drop k s → x ≡ rest
stripped front rest s x k a b c = c ∙ append_cancel_left front (drop k s) rest (sym b ∙ a)
