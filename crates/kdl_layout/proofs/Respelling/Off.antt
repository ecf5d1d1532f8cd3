-- If neither spellings nor comments inside entries are kept, nothing is put back.
use Rattle.kdl_layout.proofs.Common.{◌≡◌, ℕ, Bool, ◌+◌, false, List, [], ◌∷◌, refl, sym, ap, Option, Some, None, option_map, Identifier, Entry, unspelled, Head, Node, node, Children, no_children, children, Document, document, Nodes, none, first, Settings, IsRespelledIf, AreRespelledEntries, IsRespelledHead, IsRespelledNode, AreRespelledChildren, IsRespelledDocument, AreRespelledNodes, IsSpacedNode, IsSpacedChildren, AreSpacedNodes, IsSpacedDocument, AreFormattedEntries, Before}
use Rattle.kdl_layout.specs.Config.{nothing}
use Rattle.std.proofs.lemmas.Option.{none-some}

pub same_if : (o m o' : Option Identifier) → IsRespelledIf false o m o' → o' ≡ m
same_if None None None h = refl
same_if (Some i) (Some m) (Some i') h = ap Some h
same_if _ _ _ h = absurd assumption

same_entries : (s : Settings) (es ms es' : List Entry) → AreRespelledEntries nothing s es ms es' → es' ≡ ms
same_entries s [] [] [] h = refl
same_entries s (e ∷ es) (m ∷ ms) (e' ∷ es') h = let a = h.0 in let b = same_entries s es ms es' h.1 in λ i. a i ∷ b i
same_entries s _ _ _ h = absurd assumption

same_head : (s : Settings) (h m h' : Head) → IsRespelledHead nothing s h m h' → h' ≡ m
same_head s h m h' r =
    let ty = same_if h.ty m.ty h'.ty r.ty in
    let name = r.name in
    let entries = same_entries s h.entries m.entries h'.entries r.entries in
    let format = r.format in
    let span = r.span in
    λ i. record { ty = ty i; name = name i; entries = entries i; format = format i; span = span i }

mutual
  pub same_node : (s : Settings) (n m n' : Node) → IsRespelledNode nothing s n m n' → n' ≡ m
  same_node s (node h k) (node m j) (node h' k') r = let a = same_head s h m h' r.0 in let b = same_children s k j k' r.1 in λ i. node (a i) (b i)

  same_children : (s : Settings) (k j k' : Children) → AreRespelledChildren nothing s k j k' → k' ≡ j
  same_children s no_children no_children no_children r = refl
  same_children s (children d) (children m) (children d') r = ap children (same_document s d m d' r)
  same_children s _ _ _ r = absurd assumption

  pub same_document : (s : Settings) (d m d' : Document) → IsRespelledDocument nothing s d m d' → d' ≡ m
  same_document s (document f at ns) (document g bt ms) (document f' at' ns') r = let a = r.0 in let b = r.1 in let c = same_nodes s ns ms ns' r.2 in λ i. document (a i) (b i) (c i)

  same_nodes : (s : Settings) (ns ms ns' : Nodes) → AreRespelledNodes nothing s ns ms ns' → ns' ≡ ms
  same_nodes s none none none r = refl
  same_nodes s (first n ns) (first m ms) (first n' ns') r = let a = same_node s n m n' r.0 in let b = same_nodes s ns ms ns' r.1 in λ i. first (a i) (b i)
  same_nodes s _ _ _ r = absurd assumption

-- what is laid out is itself, without spellings
pub itself_if : (o m : Option Identifier) → m ≡ option_map unspelled o → IsRespelledIf false o m m
itself_if None None h = tt
itself_if None (Some m) h = absurd (none-some _ (sym h))
itself_if (Some i) None h = absurd (none-some _ h)
itself_if (Some i) (Some m) h = refl

entries_itself : (s : Settings) (es ms : List Entry) → AreFormattedEntries s es ms → AreRespelledEntries nothing s es ms ms
entries_itself s [] [] f = tt
entries_itself s (e ∷ es) (m ∷ ms) f = (refl, entries_itself s es ms f.1)
entries_itself s _ _ f = absurd assumption

module _ (compact : Bool) (number : ℕ) (s : Settings) where
  mutual
    pub node_itself : (level : ℕ) (b : Before) (n m : Node) → IsSpacedNode compact number s level b n m → IsRespelledNode nothing s n m m
    node_itself level b (node h k) (node m j) f = (
      record { ty = itself_if h.ty m.ty f.0.ty; name = refl; entries = entries_itself s h.entries m.entries f.0.entries; format = refl; span = refl },
      children_itself level k j f.1,
    )

    children_itself : (level : ℕ) (k j : Children) → IsSpacedChildren compact number s level k j → AreRespelledChildren nothing s k j j
    children_itself level no_children no_children f = tt
    children_itself level (children (document d at ns)) (children (document e bt ms)) (b, f, same, nodes, fits) = (refl, refl, nodes_itself (level + 1) b ns ms nodes)
    children_itself level _ _ f = absurd assumption

    pub nodes_itself : (level : ℕ) (b : Before) (ns ms : Nodes) → AreSpacedNodes compact number s level b ns ms → AreRespelledNodes nothing s ns ms ms
    nodes_itself level b none none f = tt
    nodes_itself level b (first n ns) (first m ms) f = (node_itself level b n m f.1, nodes_itself level f.0 ns ms f.3)
    nodes_itself level b _ _ f = absurd assumption

  pub document_itself : (level : ℕ) (d m : Document) → IsSpacedDocument compact number s level d m → IsRespelledDocument nothing s d m m
  document_itself level (document d at ns) (document e bt ms) (b, f, same, nodes) = (refl, refl, nodes_itself level b ns ms nodes)
