-- What does not change where blocks are put on one line.
use Rattle.kdl_layout.proofs.Common.{◌≡◌, Bool, true, false, refl, ap, ◌∙◌, and_parts, if◌then◌else◌, ◌&&◌, Node, node, Children, no_children, children, Document, document, Nodes, none, first, NodeKeepsNone, ChildrenKeepNone, DocumentKeepsNone, NodesKeepNone, head_on_line, in_one_line, is_end, is_on_one_line, nodes_in_line, nodes_on_line, one_lined_node, one_lined_children, one_lined_document, one_lined_nodes, has_block}

-- a block stays on one line, or not
pub one_or_more : (P : Document → Type 0) (b : Bool) (x y : Document) → (b ≡ true → P x) → (b ≡ false → P y) → P (if b then x else y)
one_or_more P true x y f g = f refl
one_or_more P false x y f g = g refl

-- if no block is to stay on one line, nothing changes
mutual
  pub node_off : (n n' : Node) → one_lined_node false n n' ≡ n'
  node_off (node h k) (node h' k') = ap (node h') (children_off k k')

  children_off : (k k' : Children) → one_lined_children false k k' ≡ k'
  children_off no_children k' = refl
  children_off (children d) no_children = refl
  children_off (children d) (children d') = ap children (document_off d d')

  pub document_off : (d d' : Document) → one_lined_document false d d' ≡ d'
  document_off (document f span ns) (document f' span' ns') = ap (document f' span') (nodes_off ns ns')

  nodes_off : (ns ns' : Nodes) → one_lined_nodes false ns ns' ≡ ns'
  nodes_off none ns' = refl
  nodes_off (first n ns) none = refl
  nodes_off (first n ns) (first n' ns') = ap (λ (x : Node). first x (one_lined_nodes false ns ns')) (node_off n n') ∙ ap (first n') (nodes_off ns ns')

-- of nodes without blocks, nothing changes
pub nodes_flat : (keep : Bool) (ns ns' : Nodes) → nodes_on_line ns ≡ true → one_lined_nodes keep ns ns' ≡ ns'
nodes_flat keep none ns' h = refl
nodes_flat keep (first n ns) none h = refl
nodes_flat keep (first (node x (children d)) ns) (first n' ns') h = absurd cc
nodes_flat keep (first (node x no_children) ns) (first (node x' k') ns') h =
    ap (first (node x' k')) (nodes_flat keep ns ns' (and_parts (head_on_line (is_end ns) x) (nodes_on_line ns) h).1)

pub block_stays : (keep : Bool) (k k' : Children) → has_block (one_lined_children keep k k') ≡ has_block k'
block_stays keep no_children k' = refl
block_stays keep (children d) no_children = refl
block_stays keep (children d) (children d') = refl

-- no entry is flagged
line_keeps_none : (ns : Nodes) → NodesKeepNone ns → NodesKeepNone (nodes_in_line ns)
line_keeps_none none h = tt
line_keeps_none (first (node x k) ns) h = (h.0, line_keeps_none ns h.1)

one_line_keeps_none : (d : Document) → DocumentKeepsNone d → DocumentKeepsNone (in_one_line d)
one_line_keeps_none (document f span ns) h = line_keeps_none ns h

module _ (keep : Bool) where
  mutual
    pub node_keeps_none : (n n' : Node) → NodeKeepsNone n' → NodeKeepsNone (one_lined_node keep n n')
    node_keeps_none (node h k) (node h' k') m = (m.0, children_keep_none k k' m.1)

    children_keep_none : (k k' : Children) → ChildrenKeepNone k' → ChildrenKeepNone (one_lined_children keep k k')
    children_keep_none no_children k' m = m
    children_keep_none (children d) no_children m = m
    children_keep_none (children d) (children d') m =
        one_or_more DocumentKeepsNone (keep && is_on_one_line d) (in_one_line d') (one_lined_document keep d d') (λ e. one_line_keeps_none d' m) (λ e. document_keeps_none d d' m)

    pub document_keeps_none : (d d' : Document) → DocumentKeepsNone d' → DocumentKeepsNone (one_lined_document keep d d')
    document_keeps_none (document f span ns) (document f' span' ns') m = nodes_keep_none ns ns' m

    nodes_keep_none : (ns ns' : Nodes) → NodesKeepNone ns' → NodesKeepNone (one_lined_nodes keep ns ns')
    nodes_keep_none none ns' m = m
    nodes_keep_none (first n ns) none m = m
    nodes_keep_none (first n ns) (first n' ns') m = (node_keeps_none n n' m.0, nodes_keep_none ns ns' m.1)
