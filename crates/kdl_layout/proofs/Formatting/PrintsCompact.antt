-- What a compact layout makes of a tree without comments prints the compact text.
use Rattle.kdl_layout.proofs.Common.{◌≡◌, ℕ, ◌+◌, true, [], ◌∷◌, ◌++◌, refl, ap, ◌∙◌, Option, Some, append_assoc, append-nil, Text, print_node, print_tail, print_nodes, print_document, Head, Node, node, Children, no_children, children, Document, document, Nodes, none, first, node_data, children_data, document_data, nodes_data, DocumentFormat, Settings, indentation, formatted_head, or_empty_document, block_of, has_block, NodeKeepsNone, ChildrenKeepNone, DocumentKeepsNone, NodesKeepNone, IsSpacedBraced, IsSpacedNode, IsSpacedChildren, AreSpacedNodes, IsSpacedDocument, Before}
use Rattle.kdl_layout.specs.Compact.{compact_children, compact_node, compact_nodes}
use Rattle.kdl_layout.specs.Config.{IsPlain}
use Rattle.kdl_layout.proofs.Formatting.FormattedUnique.{content_none, head_left}
use Rattle.kdl_layout.proofs.Formatting.PrintsCanonical.{block_joined, head_canonical}

-- around the nodes of a block
braces_left : (s : Settings) (level : ℕ) (ns : Nodes) (f : DocumentFormat) (b : Before) (g : Option DocumentFormat) → s.no_comments ≡ true → IsSpacedBraced true 0 s level ns f b g → g ≡ Some (block_of true (indentation s level) ns [] [])
braces_left s level ns f b g h c = let (before, after) = content_none s (level + 1) ns f b c.0 c.1 h c.2 in c.3 ∙ (λ i. Some (block_of true (indentation s level) ns (before i) (after i)))

mutual
  node_compact : (s : Settings) (level depth : ℕ) (b : Before) (n n' : Node) → IsPlain s → NodeKeepsNone n → IsSpacedNode true 0 s level b n n' → print_node n' depth ≡ compact_node s.indent level (node_data n)
  node_compact s level depth b (node h k) (node h' k') p m f =
      ap (λ (x : Head). print_node (node x k') depth) (head_left s level (has_block k) b h h' p.0 f.0)
      ∙ head_canonical s level depth h k' (compact_children s.indent level (children_data k)) p m.0 (children_compact s level depth h k k' p m.1 f.1)

  children_compact : (s : Settings) (level depth : ℕ) (h : Head) (k k' : Children) → IsPlain s → ChildrenKeepNone k → IsSpacedChildren true 0 s level k k'
      → print_tail (formatted_head s level h) k' depth ≡ compact_children s.indent level (children_data k) ++ (10 ∷ [])
  children_compact s level depth h no_children no_children p m f = refl
  children_compact s level depth h (children (document f span none)) (children (document f' span' none)) p m (b, c, same, nodes, fits) = rw (braces_left s level none (or_empty_document f) b f' p.0 c) refl
  children_compact s level depth h (children (document f span (first n ns))) (children (document f' span' (first n' ns'))) p m (b, c, same, nodes, fits) =
      rw (braces_left s level (first n ns) (or_empty_document f) b f' p.0 c, nodes_compact s (level + 1) (depth + 1) b (first n ns) (first n' ns') p m nodes)
      (block_joined (compact_nodes s.indent (level + 1) (nodes_data (first n ns))) [] (indentation s level) ∙ ap (λ (t : Text). (32 ∷ 123 ∷ 10 ∷ []) ++ t ++ indentation s level ++ (125 ∷ []) ++ (10 ∷ [])) (append-nil (compact_nodes s.indent (level + 1) (nodes_data (first n ns)))) ∙ simp append_assoc)
  children_compact s level depth h _ _ p m f = absurd assumption

  nodes_compact : (s : Settings) (level depth : ℕ) (b : Before) (ns ns' : Nodes) → IsPlain s → NodesKeepNone ns → AreSpacedNodes true 0 s level b ns ns' → print_nodes ns' depth ≡ compact_nodes s.indent level (nodes_data ns)
  nodes_compact s level depth b none none p m f = refl
  nodes_compact s level depth b (first n ns) (first n' ns') p m (b', f, passes, g) =
      ap (λ (t : Text). t ++ print_nodes ns' depth) (node_compact s level depth b n n' p m.0 f)
      ∙ ap (λ (t : Text). compact_node s.indent level (node_data n) ++ t) (nodes_compact s level depth b' ns ns' p m.1 g)
  nodes_compact s level depth b _ _ p m f = absurd assumption

pub document_compact : (s : Settings) (level depth : ℕ) (d d' : Document) → IsPlain s → DocumentKeepsNone d → IsSpacedDocument true 0 s level d d' → print_document d' depth ≡ compact_nodes s.indent level (document_data d)
document_compact s level depth (document f span ns) (document f' span' ns') p m (b, c, same, nodes) =
    let (before, after) = content_none s level ns (or_empty_document f) b c.0 c.1 p.0 c.2 in
    rw (c.3, before, after, nodes_compact s level depth b ns ns' p m nodes) (append-nil (compact_nodes s.indent level (nodes_data ns)))
