-- A tree that is laid out with what is kept inside its nodes, as one tree of steps: how each node is laid out and spelled.
use Rattle.kdl_layout.proofs.Common.{◌≡◌, ℕ, ◌+◌, Bool, refl, sym, subst, ◌∙◌, Option, SourceSpan, DocumentFormat, Head, Node, node, Children, no_children, children, Document, document, Nodes, none, first, Keeping, Settings, or_empty_document, newline_if_none, has_block, IsRespelledHead, IsRespelledNode, AreRespelledChildren, IsRespelledDocument, AreRespelledNodes, IsSpacedHead, PassesNode, IsSpacedContent, IsSpacedBraced, IsSpacedNode, IsSpacedChildren, AreSpacedNodes, IsSpacedDocument, Before}

-- a node without its children: as it is laid out, and with what is kept inside it
pub record SpelledHead (number : ℕ) (s : Settings) (keep : Keeping) (level : ℕ) (has : Bool) (b : Before) (h x : Head) : Type 0 where
  pub laid : Head
  pub spaced : IsSpacedHead number s level has b h laid
  pub respelled : IsRespelledHead keep s h laid x

mutual
  pub data SpelledNode (compact : Bool) (number : ℕ) (s : Settings) (keep : Keeping) : ℕ → Before → Node → Node → Type 0 where
    spelled : {level : ℕ} {b : Before} {h x : Head} {k l : Children} → SpelledHead number s keep level (has_block k) b h x → SpelledChildren compact number s keep level k l → SpelledNode compact number s keep level b (node h k) (node x l)

  pub data SpelledChildren (compact : Bool) (number : ℕ) (s : Settings) (keep : Keeping) : ℕ → Children → Children → Type 0 where
    blockless : {level : ℕ} → SpelledChildren compact number s keep level no_children no_children
    spelled_block : {level : ℕ} {b : Before} {f g : Option DocumentFormat} {at at' : SourceSpan} {ns xs : Nodes} → IsSpacedBraced compact number s level ns (or_empty_document f) b g → at' ≡ at
        → SpelledNodes compact number s keep (level + 1) b ns xs → SpelledChildren compact number s keep level (children (document f at ns)) (children (document g at' xs))

  pub data SpelledNodes (compact : Bool) (number : ℕ) (s : Settings) (keep : Keeping) : ℕ → Before → Nodes → Nodes → Type 0 where
    nodeless : {level : ℕ} {b : Before} → SpelledNodes compact number s keep level b none none
    one_more : {level : ℕ} {b b' : Before} {n x : Node} {ns xs : Nodes} → SpelledNode compact number s keep level b n x → PassesNode number s n b' → SpelledNodes compact number s keep level b' ns xs
        → SpelledNodes compact number s keep level b (first n ns) (first x xs)

abbrev pub SpelledDocument : Bool → ℕ → Settings → Keeping → ℕ → Document → Document → Type 0
SpelledDocument compact number s keep level (document f at ns) (document g at' xs) = (b : Before) × IsSpacedContent compact number s level ns (or_empty_document f) b g × (at' ≡ at) × SpelledNodes compact number s keep level b ns xs

-- what is laid out and has its spellings back
module _ (compact : Bool) (number : ℕ) (s : Settings) (keep : Keeping) where
  mutual
    pub spelled_node : (level : ℕ) (b : Before) (n m x : Node) → IsSpacedNode compact number s level b n m → IsRespelledNode keep s n m x → SpelledNode compact number s keep level b n x
    spelled_node level b (node h k) (node m j) (node x l) f r = spelled (record { laid = m; spaced = f.0; respelled = r.0 }) (spelled_children level k j l f.1 r.1)

    spelled_children : (level : ℕ) (k j l : Children) → IsSpacedChildren compact number s level k j → AreRespelledChildren keep s k j l → SpelledChildren compact number s keep level k l
    spelled_children level no_children no_children no_children f r = blockless
    spelled_children level (children (document f at ns)) (children (document g bt ms)) (children (document x ct xs)) (b, c, same, nodes, fits) r =
        spelled_block (subst (λ (z : Option DocumentFormat). IsSpacedBraced compact number s level ns (or_empty_document f) b z) (sym r.0) c) (r.1 ∙ same) (spelled_nodes (level + 1) b ns ms xs nodes r.2)
    spelled_children level _ _ _ f r = absurd assumption

    pub spelled_nodes : (level : ℕ) (b : Before) (ns ms xs : Nodes) → AreSpacedNodes compact number s level b ns ms → AreRespelledNodes keep s ns ms xs → SpelledNodes compact number s keep level b ns xs
    spelled_nodes level b none none none f r = nodeless
    spelled_nodes level b (first n ns) (first m ms) (first x xs) f r = one_more (spelled_node level b n m x f.1 r.0) f.2 (spelled_nodes level f.0 ns ms xs f.3 r.1)
    spelled_nodes level b _ _ _ f r = absurd assumption

  pub spelled_document : (level : ℕ) (d m x : Document) → IsSpacedDocument compact number s level d m → IsRespelledDocument keep s d m x → SpelledDocument compact number s keep level d x
  spelled_document level (document f at ns) (document g bt ms) (document x ct xs) (b, c, same, nodes) r = (
    b,
    subst (λ (z : Option DocumentFormat). IsSpacedContent compact number s level ns (or_empty_document f) b z) (sym r.0) c,
    r.1 ∙ same,
    spelled_nodes level b ns ms xs nodes r.2,
  )

-- the shape stays
module _ {compact : Bool} {number : ℕ} {s : Settings} {keep : Keeping} where
  pub same_block : {level : ℕ} {k l : Children} → SpelledChildren compact number s keep level k l → has_block l ≡ has_block k
  same_block blockless = refl
  same_block (spelled_block c at nodes) = refl

  pub same_newline : {level : ℕ} {b : Before} {ns xs : Nodes} → SpelledNodes compact number s keep level b ns xs → newline_if_none xs ≡ newline_if_none ns
  same_newline nodeless = refl
  same_newline (one_more f p fs) = refl
