-- What is left to copy, turn by turn.
use Rattle.kdl.proofs.Common.{◌≡◌, List, [], ◌∷◌, ◌++◌, map, ap, ◌∙◌, sym, refl, append_assoc, None, Some, map-append, Node, node, children, CopyFrame, outermost, head_tree, node_tree, KdlNode, KdlDocument, out-KdlDocument, out-KdlNode}
use Rattle.kdl.specs.Internal.Copied.{with_children, with_block, closed}
use Rattle.kdl.proofs.Trees.{document_tree_out, node_tree_out}

-- one more block that is open
outermost_more : (os : List CopyFrame) (o : CopyFrame) (ns : List Node) → outermost (os ++ o ∷ []) ns ≡ outermost os (closed o ns ++ map node_tree o.0.following.now)
outermost_more [] o ns = refl
outermost_more (p ∷ os) o ns = ap (λ z. closed p z ++ map node_tree p.0.following.now) (outermost_more os o ns)

-- a node with the children that it has
pub none_copied : (n : KdlNode) → (out-KdlNode n).children ≡ None → with_children n None ≡ node_tree n
none_copied n e = ap (λ o. with_children n o) (sym e) ∙ sym (node_tree_out n)

block_copied : (n : KdlNode) (d : KdlDocument) → (out-KdlNode n).children ≡ Some d → with_block n d (map node_tree (out-KdlDocument d).nodes.items) ≡ node_tree n
block_copied n d e =
    ap (λ t. node (head_tree (out-KdlNode n)) (children t)) (sym (document_tree_out d))
    ∙ ap (λ o. with_children n o) (sym e)
    ∙ sym (node_tree_out n)

-- a node without children is copied
pub line_made : (made made' : List KdlNode) (n c : KdlNode) (rest : List Node) → made' ≡ made ++ c ∷ [] → node_tree c ≡ node_tree n
    → map node_tree made' ++ rest ≡ map node_tree made ++ (node_tree n ∷ rest)
line_made made made' n c rest e k =
    ap (λ z. map node_tree z ++ rest) e
    ∙ ap (λ z. z ++ rest) (map-append node_tree made (c ∷ []))
    ∙ ap (λ t. (map node_tree made ++ t ∷ []) ++ rest) k
    ∙ append_assoc (map node_tree made) (node_tree n ∷ []) rest

-- a block is opened
pub block_opened : (o : CopyFrame) (above : List CopyFrame) → (out-KdlNode o.0.node.now).children ≡ Some o.0.block.now
    → outermost (above ++ o ∷ []) (map node_tree (out-KdlDocument o.0.block.now).nodes.items) ≡ outermost above (map node_tree o.1.items ++ (node_tree o.0.node.now ∷ map node_tree o.0.following.now))
block_opened o above e =
    outermost_more above o (map node_tree (out-KdlDocument o.0.block.now).nodes.items)
    ∙ ap (λ t. outermost above ((map node_tree o.1.items ++ t ∷ []) ++ map node_tree o.0.following.now)) (block_copied o.0.node.now o.0.block.now e)
    ∙ ap (outermost above) (append_assoc (map node_tree o.1.items) (node_tree o.0.node.now ∷ []) (map node_tree o.0.following.now))

-- it is closed
pub block_closed : (o : CopyFrame) (above : List CopyFrame) (made made' : List KdlNode) → map node_tree made' ≡ closed o (map node_tree made)
    → outermost above (map node_tree made' ++ map node_tree o.0.following.now) ≡ outermost (above ++ o ∷ []) (map node_tree made)
block_closed o above made made' e =
    ap (λ z. outermost above (z ++ map node_tree o.0.following.now)) e ∙ sym (outermost_more above o (map node_tree made))
