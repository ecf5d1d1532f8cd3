-- What layout with blank lines makes flags no entry, and no level is too great.
use Rattle.kdl_layout.proofs.Common.{ℕ, Bool, ◌+◌, Node, node, Children, no_children, children, Document, document, Nodes, none, first, Settings, NodeKeepsNone, ChildrenKeepNone, DocumentKeepsNone, NodesKeepNone, IsSpacedNode, IsSpacedChildren, AreSpacedNodes, IsSpacedDocument, Before}
use Rattle.kdl_layout.specs.Formatted.{NodeLevelsFit, ChildrenLevelsFit, NodesLevelsFit, DocumentLevelsFit}
use Rattle.kdl_layout.proofs.Formatting.FormattedUnique.{entries_keep_none}

module _ (compact : Bool) (number : ℕ) (s : Settings) where
  mutual
    pub levels_fit : (level : ℕ) (b : Before) (n n' : Node) → IsSpacedNode compact number s level b n n' → NodeLevelsFit level n
    levels_fit level b (node h k) (node h' k') f = children_levels_fit level k k' f.1

    children_levels_fit : (level : ℕ) (k k' : Children) → IsSpacedChildren compact number s level k k' → ChildrenLevelsFit level k
    children_levels_fit level no_children k' c = tt
    children_levels_fit level (children (document f span ns)) no_children c = absurd c
    children_levels_fit level (children (document f span ns)) (children (document f' span' ns')) (b, x, same, nodes, fits) = (fits, nodes_levels_fit (level + 1) b ns ns' nodes)

    nodes_levels_fit : (level : ℕ) (b : Before) (ns ns' : Nodes) → AreSpacedNodes compact number s level b ns ns' → NodesLevelsFit level ns
    nodes_levels_fit level b none ns' f = tt
    nodes_levels_fit level b (first n ns) none f = absurd f
    nodes_levels_fit level b (first n ns) (first n' ns') (b', f, p, g) = (levels_fit level b n n' f, nodes_levels_fit level b' ns ns' g)

  pub document_levels_fit : (level : ℕ) (d d' : Document) → IsSpacedDocument compact number s level d d' → DocumentLevelsFit level d
  document_levels_fit level (document f span ns) (document f' span' ns') (b, x, same, nodes) = nodes_levels_fit level b ns ns' nodes

  mutual
    pub keeps_none : (level : ℕ) (b : Before) (n n' : Node) → IsSpacedNode compact number s level b n n' → NodeKeepsNone n'
    keeps_none level b (node h k) (node h' k') f = (entries_keep_none s h.entries h'.entries f.0.entries, children_keep_none level k k' f.1)

    children_keep_none : (level : ℕ) (k k' : Children) → IsSpacedChildren compact number s level k k' → ChildrenKeepNone k'
    children_keep_none level no_children no_children c = tt
    children_keep_none level (children (document f span ns)) (children (document f' span' ns')) (b, x, same, nodes, fits) = nodes_keep_none (level + 1) b ns ns' nodes
    children_keep_none level _ _ c = absurd assumption

    nodes_keep_none : (level : ℕ) (b : Before) (ns ns' : Nodes) → AreSpacedNodes compact number s level b ns ns' → NodesKeepNone ns'
    nodes_keep_none level b none none f = tt
    nodes_keep_none level b (first n ns) (first n' ns') (b', f, p, g) = (keeps_none level b n n' f, nodes_keep_none level b' ns ns' g)
    nodes_keep_none level b _ _ f = absurd assumption

  pub document_keeps_none : (level : ℕ) (d d' : Document) → IsSpacedDocument compact number s level d d' → DocumentKeepsNone d'
  document_keeps_none level (document f span ns) (document f' span' ns') (b, x, same, nodes) = nodes_keep_none level b ns ns' nodes
