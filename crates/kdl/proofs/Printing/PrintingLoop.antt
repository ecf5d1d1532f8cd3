-- What is left to print, turn by turn.
use Rattle.kdl.proofs.Common.{◌≡◌, ℕ, ◌+◌, List, [], ◌∷◌, ◌++◌, map, ap, ◌∙◌, sym, refl, append_assoc, length, None, Some, option_map, arith, append-nil, length-append, encodes-append, common_steps, HasWritten, encode_utf8_all, Text, entry_tree, print_head, print_pieces, print_tail, print_node, print_nodes, after_brace, before_brace, leading_text, trailing_text, Children, children, children_of, document_format_tree, opening, print_left, head_tree, node_tree, nodes_tree, document_tree, KdlNode, KdlDocument, out-KdlDocument, out-KdlNode, NodeFrame}
use Rattle.std.proofs.Output.{has_written_append}
use Rattle.std.specs.declared.fmt.Formatter.{Formatter}
use Rattle.kdl.specs.Internal.Left.{line, closing, node_end, node_before_block, print_above}
use Rattle.kdl.proofs.Printing.PrintedParts.{node_printed}
use Rattle.kdl.proofs.Trees.{document_tree_out}

-- a node, with other children
abbrev with_tail : KdlNode → ℕ → Children → Text
with_tail n depth k = print_head (head_tree (out-KdlNode n)) depth ++ print_pieces (map entry_tree (out-KdlNode n).entries.items) ++ print_tail (head_tree (out-KdlNode n)) k depth

line_printed : (n : KdlNode) (depth : ℕ) → (out-KdlNode n).children ≡ None → print_node (node_tree n) depth ≡ line n depth
line_printed n depth e =
    node_printed n depth
    ∙ ap (λ o. with_tail n depth (children_of (option_map document_tree o))) e

regrouped : (h p b a l k t r e : Text) → h ++ p ++ (b ++ a ++ (l ++ k ++ t) ++ r ++ (125 ∷ e)) ≡ ((h ++ p) ++ b ++ (a ++ l)) ++ k ++ ((t ++ r ++ (125 ∷ [])) ++ e)
regrouped h p b a l k t r e = grind (arith, common_steps)

block_printed : (n : KdlNode) (d : KdlDocument) (depth : ℕ) → (out-KdlNode n).children ≡ Some d
    → print_node (node_tree n) depth ≡ opening n d depth ++ print_nodes (nodes_tree (out-KdlDocument d).nodes.items) (depth + 1) ++ closing n d depth
block_printed n d depth e =
    let format = option_map document_format_tree (out-KdlDocument d).format in
    node_printed n depth
    ∙ ap (λ o. with_tail n depth (children_of (option_map document_tree o))) e
    ∙ ap (λ t. with_tail n depth (children t)) (document_tree_out d)
    ∙ regrouped (print_head (head_tree (out-KdlNode n)) depth) (print_pieces (map entry_tree (out-KdlNode n).entries.items)) (node_before_block n) (123 ∷ after_brace format) (leading_text format)
    (print_nodes (nodes_tree (out-KdlDocument d).nodes.items) (depth + 1)) (trailing_text format) (before_brace format depth) (node_end n)

-- one more block that is open
above_more : (os : List NodeFrame) (o : NodeFrame) (depth at : ℕ) → at ≡ depth + length os
    → print_above (os ++ o ∷ []) depth ≡ closing o.node.now o.block.now at ++ print_nodes (nodes_tree o.following.now) at ++ print_above os depth
above_more [] o depth at e =
    let k : at ≡ depth = omega (arith, e) in
    rw (k, append-nil (closing o.node.now o.block.now depth ++ print_nodes (nodes_tree o.following.now) depth)) refl
above_more (p ∷ os) o depth at e =
    let k : at ≡ depth + 1 + length os = omega (arith, e) in
    rw (above_more os o (depth + 1) at k) (grind (arith, common_steps))

inside : (o c k b a : Text) → o ++ (k ++ (c ++ b ++ a)) ≡ (o ++ k ++ c) ++ (b ++ a)
inside o c k b a = grind (arith, common_steps)

pub line_left : (n : KdlNode) (following : List KdlNode) (above : List NodeFrame) (at : ℕ) → at ≡ length above → (out-KdlNode n).children ≡ None
    → line n at ++ print_left following above ≡ print_left (n ∷ following) above
line_left n following above at k e =
    ap (λ i. line n i ++ print_left following above) k
    ∙ sym (append_assoc (line n (length above)) (print_nodes (nodes_tree following) (length above)) (print_above above 0))
    ∙ ap (λ t. (t ++ print_nodes (nodes_tree following) (length above)) ++ print_above above 0) (sym (line_printed n (length above) e))

pub block_left : (o : NodeFrame) (above : List NodeFrame) (at : ℕ) → at ≡ length above → (out-KdlNode o.node.now).children ≡ Some o.block.now
    → opening o.node.now o.block.now at ++ print_left (out-KdlDocument o.block.now).nodes.items (above ++ o ∷ []) ≡ print_left (o.node.now ∷ o.following.now) above
block_left o above at k e =
    let depth = length above in
    let n = o.node.now in
    let d = o.block.now in
    let inner = nodes_tree (out-KdlDocument d).nodes.items in
    let following = print_nodes (nodes_tree o.following.now) depth in
    let more : length (above ++ o ∷ []) ≡ depth + 1 = length-append above (o ∷ []) in
    ap (λ i. opening n d i ++ print_left (out-KdlDocument d).nodes.items (above ++ o ∷ [])) k
    ∙ ap (λ i. opening n d depth ++ (print_nodes inner i ++ print_above (above ++ o ∷ []) 0)) more
    ∙ ap (λ t. opening n d depth ++ (print_nodes inner (depth + 1) ++ t)) (above_more above o 0 depth (omega arith))
    ∙ inside (opening n d depth) (closing n d depth) (print_nodes inner (depth + 1)) following (print_above above 0)
    ∙ ap (λ t. t ++ (following ++ print_above above 0)) (sym (block_printed n d depth e))
    ∙ sym (append_assoc (print_node (node_tree n) depth) following (print_above above 0))

pub end_left : (o : NodeFrame) (above : List NodeFrame) (at : ℕ) → at ≡ length above
    → closing o.node.now o.block.now at ++ print_left o.following.now above ≡ print_left [] (above ++ o ∷ [])
end_left o above at k =
    ap (λ i. closing o.node.now o.block.now i ++ print_left o.following.now above) k
    ∙ sym (append_assoc (closing o.node.now o.block.now (length above)) (print_nodes (nodes_tree o.following.now) (length above)) (print_above above 0))
    ∙ sym (above_more above o 0 (length above) (omega arith))

-- one more text
pub written_more : {W : Type 0} (took : W → List ℕ → W → Type 0) (f h k : Formatter W) (bs whole : List ℕ) (cs left left' : Text)
    → HasWritten took f bs h → bs ++ encode_utf8_all left ≡ whole → HasWritten took h (encode_utf8_all cs) k → cs ++ left' ≡ left
    → (all : List ℕ) × HasWritten took f all k × (all ++ encode_utf8_all left' ≡ whole)
written_more took f h k bs whole cs left left' a e b s = (
  bs ++ encode_utf8_all cs,
  has_written_append took f bs h (encode_utf8_all cs) k a b,
  append_assoc bs (encode_utf8_all cs) (encode_utf8_all left') ∙ ap (λ t. bs ++ t) (sym (encodes-append cs left')) ∙ ap (λ t. bs ++ encode_utf8_all t) s ∙ e,
)

pub none_left_is : (xs : List KdlNode) → length xs ≡ 0 → xs ≡ []
none_left_is [] h = refl
none_left_is (x ∷ xs) h = absurd (omega (arith, h))
