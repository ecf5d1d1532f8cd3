-- Blocks that are laid out, step by step.
use Rattle.kdl.proofs.Common.{◌≡◌, ℕ, zero, suc, ◌+◌, ◌<◌, ◌≤◌, List, [], ◌∷◌, ◌++◌, length, map, drop, set, get_or, Option, None, Some, option_map, refl, sym, ap, ◌∙◌, subst, arith, add-one, Vec, Global, Result, Ok, Err, IfOk, append-nil, drop_more, drop_all, drop-set-lt, text_of, IndentsBySpaces, indentation, settings, Before, Layout, bare_node, bare_nodes, DocumentFormat, NodeFormat, Node, node, no_children, children, children_of, document, listed_nodes, Around, document_format_tree, with_nodes, count_left, child_nodes, nodes_in, filled_block, filled, with_at, whole, NodeIsSpaced, PassesAt, NodesAreSpaced, PartlyOpen, IsAtLevel, IsUnderWay, GoesOn, with_braces, with_formats, braces_of, lined, enclosed, StaysAs, head_tree, node_tree, document_tree, KdlNode, KdlDocument, out-KdlDocument, out-KdlNode, out-roll-KdlDocument, LayoutFrame}
use Rattle.std.specs.Prelude.{MatchOption}
use Rattle.std.proofs.lemmas.List.{get_or-set_same, set-set}
use Rattle.kdl_layout.specs.Formatted.{bare_children}
use Rattle.kdl.specs.Internal.Spacing.{outermost, Partly, IsSpacedBut, line_of}
use Rattle.kdl.proofs.NodeCounts.{line_counted, block_counted, end_counted}
use Rattle.kdl.proofs.Trees.{node_tree_out, document_tree_out}

-- blocks with other nodes in them
block_is : (o : Option KdlDocument) → children_of (option_map document_tree o) ≡ filled_block o (map node_tree (nodes_in o))
block_is None = refl
block_is (Some d) = ap children (document_tree_out d)

pub node_is : (n : KdlNode) → node_tree n ≡ filled n (map node_tree (child_nodes n))
node_is n = node_tree_out n ∙ ap (λ k. node (head_tree (out-KdlNode n)) k) (block_is (out-KdlNode n).children)

block_changed : (o : Option KdlDocument) (v : Vec KdlNode Global) (ns : List Node) → filled_block (option_map (λ d. with_nodes d v) o) ns ≡ filled_block o ns
block_changed None v ns = refl
block_changed (Some d) v ns = ap (λ x. children (document (option_map document_format_tree x.format) x.span (listed_nodes ns))) (out-roll-KdlDocument (record (out-KdlDocument d) { nodes = v }))

-- a node whose block holds other nodes
pub filled_changed : (n m : KdlNode) (v : Vec KdlNode Global) (ns : List Node) → out-KdlNode m ≡ record (out-KdlNode n) { children = option_map (λ d. with_nodes d v) (out-KdlNode n).children }
    → filled m ns ≡ filled n ns
filled_changed n m v ns e =
    ap (λ x. node (head_tree x) (filled_block x.children ns)) e
    ∙ ap (λ k. node (head_tree (out-KdlNode n)) k) (block_changed (out-KdlNode n).children v ns)

-- what is made of the nodes that were put into a block
nodes_exchanged : (o : Option KdlDocument) (v : Vec KdlNode Global) (F : List Node → List Node) → filled_block o (F (map node_tree (nodes_in (option_map (λ d. with_nodes d v) o)))) ≡ filled_block o (F (map node_tree v.items))
nodes_exchanged None v F = refl
nodes_exchanged (Some d) v F = ap (λ x. filled_block (Some d) (F (map node_tree x.nodes.items))) (out-roll-KdlDocument (record (out-KdlDocument d) { nodes = v }))

pub filled_exchanged : (n m : KdlNode) (v : Vec KdlNode Global) (F : List Node → List Node) → out-KdlNode m ≡ record (out-KdlNode n) { children = option_map (λ d. with_nodes d v) (out-KdlNode n).children }
    → filled m (F (map node_tree (child_nodes m))) ≡ filled n (F (map node_tree v.items))
filled_exchanged n m v F e =
    filled_changed n m v (F (map node_tree (child_nodes m))) e
    ∙ ap (λ x. filled n (F (map node_tree (nodes_in x.children)))) e
    ∙ ap (λ k. node (head_tree (out-KdlNode n)) k) (nodes_exchanged (out-KdlNode n).children v F)

pub node_changed : (n m : KdlNode) (v : Vec KdlNode Global) → out-KdlNode m ≡ record (out-KdlNode n) { children = option_map (λ d. with_nodes d v) (out-KdlNode n).children }
    → node_tree m ≡ filled n (map node_tree v.items)
node_changed n m v e = node_is m ∙ filled_exchanged n m v (λ ms. ms) e

pub filled_below : (n m : KdlNode) (o : Option KdlDocument) (F : List Node → List Node) → out-KdlNode m ≡ record (out-KdlNode n) { children = o } → ((ns : List Node) → filled_block o ns ≡ filled_block (out-KdlNode n).children ns)
    → filled m (F (map node_tree (child_nodes m))) ≡ filled n (F (map node_tree (nodes_in o)))
filled_below n m o F e f =
    ap (λ x. node (head_tree x) (filled_block x.children (F (map node_tree (nodes_in x.children))))) e
    ∙ ap (λ k. node (head_tree (out-KdlNode n)) k) (f (F (map node_tree (nodes_in o))))

-- the texts around the nodes do not count
bare_formats : (fs : List NodeFormat) (ns : List Node) → map bare_node (with_formats fs ns) ≡ map bare_node ns
bare_formats fs [] = refl
bare_formats [] (n ∷ ns) = refl
bare_formats (f ∷ fs) (node h k ∷ ns) = ap (λ x. bare_node (node h k) ∷ x) (bare_formats fs ns)

-- a node whose block has other texts around its nodes
pub bare_braced : (g : Option DocumentFormat) (n : Node) → bare_node (with_braces g n) ≡ bare_node n
bare_braced g (node h no_children) = refl
bare_braced g (node h (children (document f at ns))) = refl

-- a node whose block is another, of which only the nodes differ
pub node_below : (n m : KdlNode) (o : Option KdlDocument) → out-KdlNode m ≡ record (out-KdlNode n) { children = o } → ((ns : List Node) → filled_block o ns ≡ filled_block (out-KdlNode n).children ns)
    → node_tree m ≡ filled n (map node_tree (nodes_in o))
node_below n m o e f = node_is m ∙ filled_below n m o (λ ms. ms) e f

-- it is laid out where these are
pub laid_below : (l : Layout) (level : ℕ) (c first : Before) (g : Option Around) (n n' m : KdlNode) (o : Option KdlDocument)
    → node_tree m ≡ enclosed g n' (map node_tree (nodes_in o)) → child_nodes n' ≡ child_nodes n
    → IsSpacedBut l level c (node_tree n) first g (map node_tree (child_nodes n)) n' → NodesAreSpaced l (level + 1) first (map node_tree (child_nodes n')) (map node_tree (nodes_in o))
    → NodeIsSpaced l level c (node_tree n) (node_tree m) × (IndentsBySpaces (settings l.config) → StaysAs (settings l.config) (filled n' (map node_tree (nodes_in o))) (node_tree m))
laid_below l level c first g n n' m o t b f z =
    let ms = map node_tree (nodes_in o) in
    let w = f ms (subst (λ x. NodesAreSpaced l (level + 1) first (map node_tree x) ms) b z) in
    subst (λ (x : Node). NodeIsSpaced l level c (node_tree n) x × (IndentsBySpaces (settings l.config) → StaysAs (settings l.config) (filled n' ms) x)) (sym t) w

-- what stays in a block
bared : (ns : List Node) → bare_nodes (listed_nodes ns) ≡ listed_nodes (map bare_node ns)
bared [] = refl
bared (n ∷ ns) = rw (bared ns) refl

pub bare_alike : (ns ms : List Node) → map bare_node ns ≡ map bare_node ms → bare_nodes (listed_nodes ns) ≡ bare_nodes (listed_nodes ms)
bare_alike ns ms e = bared ns ∙ ap listed_nodes e ∙ sym (bared ms)

pub bare_block : (o : Option KdlDocument) (ns ms : List Node) → map bare_node ns ≡ map bare_node ms → bare_children (filled_block o ns) ≡ bare_children (filled_block o ms)
bare_block None ns ms e = refl
bare_block (Some d) ns ms e = rw (bare_alike ns ms e) refl

pub bare_filled : (n : KdlNode) (ns ms : List Node) → map bare_node ns ≡ map bare_node ms → bare_node (filled n ns) ≡ bare_node (filled n ms)
bare_filled n ns ms e = rw (bare_block (out-KdlNode n).children ns ms e) refl

pub bare_enclosed : (g : Option Around) (n : KdlNode) (ns : List Node) → bare_node (enclosed g n ns) ≡ bare_node (filled n ns)
bare_enclosed g n ns = bare_braced (braces_of g) (filled n (lined g ns)) ∙ bare_filled n (lined g ns) ns (bare_formats (line_of g) ns)

bare_with_at : (f g : KdlNode → Node) → ((n : KdlNode) → bare_node (f n) ≡ bare_node (g n)) → (ns : List KdlNode) (i : ℕ) → map bare_node (with_at f ns i) ≡ map bare_node (with_at g ns i)
bare_with_at f g e [] i = refl
bare_with_at f g e (n ∷ ns) zero = ap (λ x. x ∷ map bare_node (map node_tree ns)) (e n)
bare_with_at f g e (n ∷ ns) (suc i) = ap (λ x. bare_node (node_tree n) ∷ x) (bare_with_at f g e ns i)

pub bare_outermost : (above : List LayoutFrame) (ns ms : List Node) → map bare_node ns ≡ map bare_node ms → map bare_node (outermost above ns) ≡ map bare_node (outermost above ms)
bare_outermost [] ns ms e = e
bare_outermost (b ∷ above) ns ms e =
    bare_with_at (λ n. filled n (outermost above ns)) (λ n. filled n (outermost above ms)) (λ n. bare_filled n (outermost above ns) (outermost above ms) (bare_outermost above ns ms e)) b.nodes.items b.at

pub bare_set : (ns : List KdlNode) (i : ℕ) (m d : KdlNode) → i < length ns → bare_node (node_tree m) ≡ bare_node (node_tree (get_or ns i d)) → map bare_node (map node_tree (set ns i m)) ≡ map bare_node (map node_tree ns)
bare_set [] i m d h e = absurd (omega arith)
bare_set (n ∷ ns) zero m d h e = ap (λ x. x ∷ map bare_node (map node_tree ns)) e
bare_set (n ∷ ns) (suc i) m d h e = ap (λ x. bare_node (node_tree n) ∷ x) (bare_set ns i m d (omega arith) e)

-- one more block above
pub outermost_more : (above : List LayoutFrame) (b : LayoutFrame) (ns : List Node) → outermost (above ++ b ∷ []) ns ≡ outermost above (with_at (λ n. filled n ns) b.nodes.items b.at)
outermost_more [] b ns = refl
outermost_more (a ∷ above) b ns = ap (λ z. with_at (λ n. filled n z) a.nodes.items a.at) (outermost_more above b ns)

pub with_at_set : (f : KdlNode → Node) (ns : List KdlNode) (i : ℕ) (m n : KdlNode) → i < length ns → f m ≡ node_tree n → with_at f (set ns i m) i ≡ map node_tree (set ns i n)
with_at_set f [] i m n h e = absurd (omega arith)
with_at_set f (x ∷ ns) zero m n h e = ap (λ z. z ∷ map node_tree ns) e
with_at_set f (x ∷ ns) (suc i) m n h e = ap (λ z. node_tree x ∷ z) (with_at_set f ns i m n (omega arith) e)

pub set_with_at : (f : KdlNode → Node) (ns : List KdlNode) (i : ℕ) (m d : KdlNode) → i < length ns → node_tree m ≡ f (get_or ns i d) → map node_tree (set ns i m) ≡ with_at f ns i
set_with_at f [] i m d h e = absurd (omega arith)
set_with_at f (n ∷ ns) zero m d h e = ap (λ x. x ∷ map node_tree ns) e
set_with_at f (n ∷ ns) (suc i) m d h e = ap (λ x. node_tree n ∷ x) (set_with_at f ns i m d (omega arith) e)

pub with_at_none : (f : KdlNode → Node) (ns : List KdlNode) (i : ℕ) → length ns ≤ i → map node_tree ns ≡ with_at f ns i
with_at_none f [] i h = refl
with_at_none f (n ∷ ns) zero h = absurd (omega arith)
with_at_none f (n ∷ ns) (suc i) h = ap (λ x. node_tree n ∷ x) (with_at_none f ns i (omega arith))

-- how far the nodes are laid out
module _ (l : Layout) (level : ℕ) where
  pub partly_all : (c next : Before) (olds : List Node) (ns : List KdlNode) (i : ℕ) → length ns ≤ i → Partly l level c olds ns i next → NodesAreSpaced l level c olds (map node_tree ns)
  partly_all c next olds [] zero h p = subst (λ (x : List Node). NodesAreSpaced l level c x []) p.1 tt
  partly_all c next olds (n ∷ ns) zero h p = absurd (omega arith)
  partly_all c next [] [] (suc i) h p = absurd p
  partly_all c next [] (n ∷ ns) (suc i) h p = absurd p
  partly_all c next (o ∷ olds) [] (suc i) h p = absurd p
  partly_all c next (o ∷ olds) (n ∷ ns) (suc i) h p = (p.0, p.1, p.2, partly_all p.0 next olds ns i (omega arith) p.3)

  pub partly_next : (c next next' : Before) (olds : List Node) (ns : List KdlNode) (i : ℕ) (m d : KdlNode) → i < length ns → NodeIsSpaced l level next (node_tree (get_or ns i d)) (node_tree m) → PassesAt l (node_tree (get_or ns i d)) next'
      → Partly l level c olds ns i next → Partly l level c olds (set ns i m) (suc i) next'
  partly_next c next next' olds [] i m d h w q p = absurd (omega arith)
  partly_next c next next' olds (n ∷ ns) zero m d h w q p =
      subst (λ (x : List Node). Partly l level c x (m ∷ ns) 1 next') p.1 (next', subst (λ (x : Before). NodeIsSpaced l level x (node_tree n) (node_tree m)) p.0 w, q, (refl, refl))
  partly_next c next next' [] (n ∷ ns) (suc i) m d h w q p = absurd p
  partly_next c next next' (o ∷ olds) (n ∷ ns) (suc i) m d h w q p = (p.0, p.1, p.2, partly_next p.0 next next' olds ns i m d (omega arith) w q p.3)

  pub partly_open : (Open : Before → Node → KdlNode → Type 0) (c next next' : Before) (olds : List Node) (ns : List KdlNode) (i : ℕ) (m d : KdlNode) → i < length ns → Open next (node_tree (get_or ns i d)) m → PassesAt l (node_tree (get_or ns i d)) next'
      → Partly l level c olds ns i next → PartlyOpen l level c Open olds (set ns i m) i next'
  partly_open Open c next next' olds [] i m d h w q p = absurd (omega arith)
  partly_open Open c next next' olds (n ∷ ns) zero m d h w q p = subst (λ (x : List Node). PartlyOpen l level c Open x (m ∷ ns) 0 next') p.1 (subst (λ (x : Before). Open x (node_tree n) m) p.0 w, q, refl)
  partly_open Open c next next' [] (n ∷ ns) (suc i) m d h w q p = absurd p
  partly_open Open c next next' (o ∷ olds) (n ∷ ns) (suc i) m d h w q p = (p.0, p.1, p.2, partly_open Open p.0 next next' olds ns i m d (omega arith) w q p.3)

  pub partly_closed : (Open : Before → Node → KdlNode → Type 0) (c next : Before) (olds : List Node) (ns : List KdlNode) (i : ℕ) (m d : KdlNode) → ((x : Before) (o : Node) → Open x o (get_or ns i d) → NodeIsSpaced l level x o (node_tree m))
      → PartlyOpen l level c Open olds ns i next → Partly l level c olds (set ns i m) (suc i) next
  partly_closed Open c next [] [] i m d f p = absurd p
  partly_closed Open c next [] (n ∷ ns) i m d f p = absurd p
  partly_closed Open c next (o ∷ olds) [] i m d f p = absurd p
  partly_closed Open c next (o ∷ olds) (n ∷ ns) zero m d f p = (next, f c o p.0, p.1, (refl, p.2))
  partly_closed Open c next (o ∷ olds) (n ∷ ns) (suc i) m d f p = (p.0, p.1, p.2, partly_closed Open p.0 next olds ns i m d f p.3)

  pub open_inside : (Open : Before → Node → KdlNode → Type 0) (c next : Before) (olds : List Node) (ns : List KdlNode) (i : ℕ) → PartlyOpen l level c Open olds ns i next → i < length ns
  open_inside Open c next [] [] i p = absurd p
  open_inside Open c next [] (n ∷ ns) i p = absurd p
  open_inside Open c next (o ∷ olds) [] i p = absurd p
  open_inside Open c next (o ∷ olds) (n ∷ ns) zero p = omega arith
  open_inside Open c next (o ∷ olds) (n ∷ ns) (suc i) p = let h = open_inside Open p.0 next olds ns i p.3 in omega (arith, h)

  pub open_as : (Open Open' : Before → Node → KdlNode → Type 0) → ((x : Before) (o : Node) (n : KdlNode) → Open x o n → Open' x o n) → (c next : Before) (olds : List Node) (ns : List KdlNode) (i : ℕ)
      → PartlyOpen l level c Open olds ns i next → PartlyOpen l level c Open' olds ns i next
  open_as Open Open' f c next [] [] i p = absurd p
  open_as Open Open' f c next [] (n ∷ ns) i p = absurd p
  open_as Open Open' f c next (o ∷ olds) [] i p = absurd p
  open_as Open Open' f c next (o ∷ olds) (n ∷ ns) zero p = (f c o n p.0, p.1, p.2)
  open_as Open Open' f c next (o ∷ olds) (n ∷ ns) (suc i) p = (p.0, p.1, p.2, open_as Open Open' f p.0 next olds ns i p.3)

-- the node at a place is laid out where the nodes in its block are, which are under way
abbrev pub Opened : Layout → ℕ → Option Around → List LayoutFrame → LayoutFrame → Before → Node → KdlNode → Type 0
Opened l level g above inner x o n = (first : Before) × (ns : List Node) × IsSpacedBut l level x o first g ns n × IsUnderWay l (level + 1) first ns above inner

-- what a step does under all blocks above
under_way : (l : Layout) (above tail tail' : List LayoutFrame) (b b' : LayoutFrame) → ((level : ℕ) (c : Before) (olds : List Node) → IsUnderWay l level c olds tail b → IsUnderWay l level c olds tail' b')
    → (level : ℕ) (c : Before) (olds : List Node) → IsUnderWay l level c olds (above ++ tail) b → IsUnderWay l level c olds (above ++ tail') b'
under_way l [] tail tail' b b' f level c olds u = f level c olds u
under_way l (a ∷ above) tail tail' b b' f level c olds u = (
  u.0,
  open_as l level (Opened l level a.around (above ++ tail) b) (Opened l level a.around (above ++ tail') b')
      (λ x o n q. (q.0, q.1, q.2, under_way l above tail tail' b b' f (level + 1) q.0 q.1 q.3)) c a.next olds a.nodes.items a.at u.1,
)

-- the next node has no nodes in its block
pub line_on : (l : Layout) (above : List LayoutFrame) (b b' : LayoutFrame) (m d : KdlNode) → b.at < length b.nodes.items → b'.nodes.items ≡ set b.nodes.items b.at m → b'.at ≡ b.at + 1 → b'.level ≡ b.level → b'.before ≡ b.before
    → ((level : ℕ) → IsAtLevel l level b → NodeIsSpaced l level b.next (node_tree (get_or b.nodes.items b.at d)) (node_tree m) × PassesAt l (node_tree (get_or b.nodes.items b.at d)) b'.next)
    → (level : ℕ) (c : Before) (olds : List Node) → IsUnderWay l level c olds above b → IsUnderWay l level c olds above b'
line_on l above b b' m d h ns at y t laid level c olds u =
    let f : (level : ℕ) (c : Before) (olds : List Node) → IsUnderWay l level c olds [] b → IsUnderWay l level c olds [] b' =
    λ level c olds u. (
      rw (y, t) u.0,
      rw (ns, at, add-one b.at) (partly_next l level c b.next b'.next olds b.nodes.items b.at m d h (laid level u.0).0 (laid level u.0).1 u.1),
    ) in
    subst (λ z. IsUnderWay l level c olds z b') (append-nil above)
    (under_way l above [] [] b b' f level c olds (subst (λ z. IsUnderWay l level c olds z b) (sym (append-nil above)) u))

-- the next node's block is entered
pub block_on : (l : Layout) (above : List LayoutFrame) (b outer inner : LayoutFrame) (ns : List KdlNode) (m d : KdlNode) → b.at < length b.nodes.items
    → outer.nodes.items ≡ set b.nodes.items b.at m → outer.at ≡ b.at → outer.level ≡ b.level → outer.before ≡ b.before
    → inner.nodes.items ≡ ns → inner.at ≡ 0
    → ((level : ℕ) → IsAtLevel l level b
    → IsSpacedBut l level b.next (node_tree (get_or b.nodes.items b.at d)) inner.next outer.around (map node_tree ns) m × IsAtLevel l (level + 1) inner × PassesAt l (node_tree (get_or b.nodes.items b.at d)) outer.next)
    → (level : ℕ) (c : Before) (olds : List Node) → IsUnderWay l level c olds above b → IsUnderWay l level c olds (above ++ outer ∷ []) inner
block_on l above b outer inner ns m d h is at y t holds first laid level c olds u =
    let f : (level : ℕ) (c : Before) (olds : List Node) → IsUnderWay l level c olds [] b → IsUnderWay l level c olds (outer ∷ []) inner =
    λ level c olds u.
    let w = laid level u.0 in
    let start : Partly l (level + 1) inner.next (map node_tree ns) inner.nodes.items inner.at inner.next = rw (holds, first) (refl, refl) in (
      rw (y, t) u.0,
      rw (is, at) (partly_open l level (Opened l level outer.around [] inner) c b.next outer.next olds b.nodes.items b.at m d h (inner.next, map node_tree ns, w.0, (w.1, start)) w.2 u.1),
    ) in
    under_way l above [] (outer ∷ []) b inner f level c olds (subst (λ z. IsUnderWay l level c olds z b) (sym (append-nil above)) u)

-- a block is left
pub end_on : (l : Layout) (above : List LayoutFrame) (outer inner b : LayoutFrame) (m d : KdlNode) → length inner.nodes.items ≤ inner.at
    → (outer.at < length outer.nodes.items → (b.nodes.items ≡ set outer.nodes.items outer.at m) × (b.at ≡ outer.at + 1)) → b.level ≡ outer.level → b.before ≡ outer.before → b.next ≡ outer.next
    → node_tree m ≡ enclosed outer.around (get_or outer.nodes.items outer.at d) (map node_tree inner.nodes.items)
    → (level : ℕ) (c : Before) (olds : List Node) → IsUnderWay l level c olds (above ++ outer ∷ []) inner → IsUnderWay l level c olds above b
end_on l above outer inner b m d all is y t x e level c olds u =
    let f : (level : ℕ) (c : Before) (olds : List Node) → IsUnderWay l level c olds (outer ∷ []) inner → IsUnderWay l level c olds [] b =
    λ level c olds u.
    let Open : Before → Node → KdlNode → Type 0 = Opened l level outer.around [] inner in
    let w = is (open_inside l level Open c outer.next olds outer.nodes.items outer.at u.1) in (
      rw (y, t) u.0,
      rw (w.0, w.1, add-one outer.at, x) (partly_closed l level Open c outer.next olds outer.nodes.items outer.at m d
          (λ x o q. rw e (q.2 (map node_tree inner.nodes.items) (partly_all l (level + 1) q.0 inner.next q.1 inner.nodes.items inner.at all q.3.1)).0) u.1),
    ) in
    subst (λ z. IsUnderWay l level c olds z b) (append-nil above) (under_way l above (outer ∷ []) [] inner b f level c olds u)

end_on_none : (l : Layout) (above : List LayoutFrame) (outer inner b : LayoutFrame) → length outer.nodes.items ≤ outer.at
    → (level : ℕ) (c : Before) (olds : List Node) → IsUnderWay l level c olds (above ++ outer ∷ []) inner → IsUnderWay l level c olds above b
end_on_none l above outer inner b h level c olds u =
    let f : (level : ℕ) (c : Before) (olds : List Node) → IsUnderWay l level c olds (outer ∷ []) inner → IsUnderWay l level c olds [] b =
    λ level c olds u.
    let k = open_inside l level (Opened l level outer.around [] inner) c outer.next olds outer.nodes.items outer.at u.1 in
    absurd (omega (arith, h, k)) in
    subst (λ z. IsUnderWay l level c olds z b) (append-nil above) (under_way l above (outer ∷ []) [] inner b f level c olds u)

-- nothing is left
pub all_done : (l : Layout) (above : List LayoutFrame) (b : LayoutFrame) (level : ℕ) (c : Before) (olds : List Node) → above ≡ [] → length b.nodes.items ≤ b.at → IsUnderWay l level c olds above b → NodesAreSpaced l level c olds (map node_tree b.nodes.items)
all_done l above b level c olds e h u =
    let w : IsUnderWay l level c olds [] b = subst (λ z. IsUnderWay l level c olds z b) e u in
    partly_all l level c b.next olds b.nodes.items b.at h w.1

-- what is left of a list of which one element is exchanged
abbrev following : LayoutFrame → List KdlNode
following b = drop (b.at + 1) b.nodes.items

-- a block is left: the whole is what it was
pub end_whole : (above : List LayoutFrame) (outer inner b : LayoutFrame) (n m : KdlNode) → outer.at < length outer.nodes.items → get_or outer.nodes.items outer.at n ≡ n → node_tree m ≡ filled n (map node_tree inner.nodes.items)
    → b.nodes.items ≡ set outer.nodes.items outer.at m → whole above b ≡ whole (above ++ outer ∷ []) inner
end_whole above outer inner b n m h g t is =
    let ns = map node_tree inner.nodes.items in
    ap (λ z. outermost above (map node_tree z)) is
    ∙ ap (outermost above) (set_with_at (λ x. filled x ns) outer.nodes.items outer.at m n h (t ∙ ap (λ x. filled x ns) (sym g)))
    ∙ sym (outermost_more above outer ns)

pub end_whole_none : (above : List LayoutFrame) (outer inner b : LayoutFrame) → length outer.nodes.items ≤ outer.at → b.nodes.items ≡ outer.nodes.items → whole above b ≡ whole (above ++ outer ∷ []) inner
end_whole_none above outer inner b h is =
    let ns = map node_tree inner.nodes.items in
    ap (λ z. outermost above (map node_tree z)) is
    ∙ ap (outermost above) (with_at_none (λ x. filled x ns) outer.nodes.items outer.at h)
    ∙ sym (outermost_more above outer ns)

-- the same but for the texts around the nodes
bare_set_with_at : (f : KdlNode → Node) (ns : List KdlNode) (i : ℕ) (m d : KdlNode) → i < length ns → bare_node (node_tree m) ≡ bare_node (f (get_or ns i d)) → map bare_node (map node_tree (set ns i m)) ≡ map bare_node (with_at f ns i)
bare_set_with_at f [] i m d h e = absurd (omega arith)
bare_set_with_at f (n ∷ ns) zero m d h e = ap (λ x. x ∷ map bare_node (map node_tree ns)) e
bare_set_with_at f (n ∷ ns) (suc i) m d h e = ap (λ x. bare_node (node_tree n) ∷ x) (bare_set_with_at f ns i m d (omega arith) e)

pub end_bare : (above : List LayoutFrame) (outer inner b : LayoutFrame) (n m : KdlNode) → outer.at < length outer.nodes.items → get_or outer.nodes.items outer.at n ≡ n
    → node_tree m ≡ enclosed outer.around n (map node_tree inner.nodes.items)
    → b.nodes.items ≡ set outer.nodes.items outer.at m → map bare_node (whole above b) ≡ map bare_node (whole (above ++ outer ∷ []) inner)
end_bare above outer inner b n m h g t is =
    let ns = map node_tree inner.nodes.items in
    let same = ap bare_node t ∙ bare_enclosed outer.around n ns ∙ ap (λ x. bare_node (filled x ns)) (sym g) in
    ap (λ z. map bare_node (outermost above (map node_tree z))) is
    ∙ bare_outermost above (map node_tree (set outer.nodes.items outer.at m)) (with_at (λ x. filled x ns) outer.nodes.items outer.at) (bare_set_with_at (λ x. filled x ns) outer.nodes.items outer.at m n h same)
    ∙ sym (ap (map bare_node) (outermost_more above outer ns))

-- and what was under way goes on
end_goes_on : (above : List LayoutFrame) (outer inner b : LayoutFrame) (n m : KdlNode) → (outer.at < length outer.nodes.items → (b.nodes.items ≡ set outer.nodes.items outer.at m) × (b.at ≡ outer.at + 1))
    → drop b.at b.nodes.items ≡ following outer → b.level ≡ outer.level → b.before ≡ outer.before → b.next ≡ outer.next
    → node_tree m ≡ enclosed outer.around (get_or outer.nodes.items outer.at n) (map node_tree inner.nodes.items) → length inner.nodes.items ≤ inner.at → (s : Layout) → GoesOn s (above ++ outer ∷ []) inner above b
end_goes_on above outer inner b n m is left l t x e all s =
    let nothing : drop inner.at inner.nodes.items ≡ [] = drop_all inner.at inner.nodes.items all in (
      end_on s above outer inner b m n all is l t x e,
      omega (arith, end_counted following outer above, ap (λ r. count_left following r above) left, ap (λ r. count_left following r (above ++ outer ∷ [])) nothing),
    )

pub end_goes_on_there : (above : List LayoutFrame) (outer inner b : LayoutFrame) (n m : KdlNode) → outer.at < length outer.nodes.items → get_or outer.nodes.items outer.at n ≡ n → node_tree m ≡ enclosed outer.around n (map node_tree inner.nodes.items)
    → b.nodes.items ≡ set outer.nodes.items outer.at m → b.at ≡ outer.at + 1 → b.level ≡ outer.level → b.before ≡ outer.before → b.next ≡ outer.next
    → length inner.nodes.items ≤ inner.at → (s : Layout) → GoesOn s (above ++ outer ∷ []) inner above b
end_goes_on_there above outer inner b n m h g e is at l t x all =
    end_goes_on above outer inner b n m (λ _. (is, at)) (rw (is, at) (drop-set-lt (outer.at + 1) outer.nodes.items outer.at m (omega arith))) l t x
    (e ∙ ap (λ x. enclosed outer.around x (map node_tree inner.nodes.items)) (sym g)) all

pub end_goes_on_none : (above : List LayoutFrame) (outer inner b : LayoutFrame) → length outer.nodes.items ≤ outer.at → b.nodes.items ≡ outer.nodes.items → b.at ≡ outer.at → b.level ≡ outer.level → b.before ≡ outer.before
    → length inner.nodes.items ≤ inner.at → (s : Layout) → GoesOn s (above ++ outer ∷ []) inner above b
end_goes_on_none above outer inner b h is at l t all s =
    let nothing : drop inner.at inner.nodes.items ≡ [] = drop_all inner.at inner.nodes.items all in
    let left : drop b.at b.nodes.items ≡ following outer = rw (is, at) (drop_all outer.at outer.nodes.items h ∙ sym (drop_all (outer.at + 1) outer.nodes.items (omega (arith, h)))) in (
      end_on_none s above outer inner b h,
      omega (arith, end_counted following outer above, ap (λ r. count_left following r above) left, ap (λ r. count_left following r (above ++ outer ∷ [])) nothing),
    )

-- a step at the next node leaves what stays
pub bare_next : (above : List LayoutFrame) (b b' : LayoutFrame) (n m : KdlNode) → b.at < length b.nodes.items → get_or b.nodes.items b.at n ≡ n → bare_node (node_tree m) ≡ bare_node (node_tree n)
    → b'.nodes.items ≡ set b.nodes.items b.at m → map bare_node (whole above b') ≡ map bare_node (whole above b)
bare_next above b b' n m h g e is =
    bare_outermost above (map node_tree b'.nodes.items) (map node_tree b.nodes.items)
    (ap (λ z. map bare_node (map node_tree z)) is ∙ bare_set b.nodes.items b.at m n h (e ∙ ap (λ x. bare_node (node_tree x)) (sym g)))

-- what is laid out at a block's level
-- own is what a node becomes at it, and what comes after it
abbrev pub Own : Layout → ℕ → LayoutFrame → Before → Before → Option Around → KdlNode → KdlNode → Type 0
Own l level b next first g n m = PassesAt l (node_tree n) next × IsSpacedBut l level b.next (node_tree n) first g (map node_tree (child_nodes n)) m

at_level : (l : Layout) (b : LayoutFrame) (next first : Before) (g : Option Around) (n m : KdlNode) → (text_of b.before ≡ indentation (settings l.config) b.level → Own l b.level b next first g n m) → (level : ℕ) → IsAtLevel l level b → Own l level b next first g n m
at_level l b next first g n m own level u = subst (λ k. Own l k b next first g n m) u.0 (own (u.1 ∙ ap (indentation (settings l.config)) (sym u.0)))

none_is : (xs : List KdlNode) → (0 < length xs → ⊥) → xs ≡ []
none_is [] h = refl
none_is (x ∷ xs) h = absurd (h (omega arith))

-- the next node, without nodes in its block
pub line_is_laid : (s : Layout) (b : LayoutFrame) (next first : Before) (g : Option Around) (n m : KdlNode) → child_nodes m ≡ child_nodes n → (0 < length (child_nodes m) → ⊥) → (level : ℕ) → Own s level b next first g n m
    → NodeIsSpaced s level b.next (node_tree n) (enclosed g m (map node_tree (child_nodes m)))
    × (IndentsBySpaces (settings s.config) → StaysAs (settings s.config) (node_tree m) (enclosed g m (map node_tree (child_nodes m))))
line_is_laid s b next first g n m same none level w =
    let empty : child_nodes m ≡ [] = none_is (child_nodes m) none in
    let tree : node_tree m ≡ filled m [] = node_is m ∙ ap (λ z. filled m (map node_tree z)) empty in
    let v = w.1 [] (subst (λ z. NodesAreSpaced s (level + 1) first (map node_tree z) []) (sym empty ∙ same) tt) in
    subst (λ (z : List KdlNode). NodeIsSpaced s level b.next (node_tree n) (enclosed g m (map node_tree z)) × (IndentsBySpaces (settings s.config) → StaysAs (settings s.config) (node_tree m) (enclosed g m (map node_tree z)))) (sym empty)
    (subst (λ (z : Node). NodeIsSpaced s level b.next (node_tree n) (enclosed g m []) × (IndentsBySpaces (settings s.config) → StaysAs (settings s.config) z (enclosed g m []))) (sym tree) v)

pub line_goes_on : (s : Layout) (above : List LayoutFrame) (b b' : LayoutFrame) (first : Before) (g : Option Around) (n m x : KdlNode) → b.at < length b.nodes.items → get_or b.nodes.items b.at n ≡ n
    → b'.nodes.items ≡ set b.nodes.items b.at x → b'.at ≡ b.at + 1 → b'.level ≡ b.level → b'.before ≡ b.before
    → child_nodes m ≡ child_nodes n → (0 < length (child_nodes m) → ⊥) → node_tree x ≡ enclosed g m (map node_tree (child_nodes m))
    → (text_of b.before ≡ indentation (settings s.config) b.level → Own s b.level b b'.next first g n m) → GoesOn s above b above b'
line_goes_on s above b b' first g n m x h e is at l t same none braced own =
    let laid : (level : ℕ) → IsAtLevel s level b → NodeIsSpaced s level b.next (node_tree n) (node_tree x) × PassesAt s (node_tree n) b'.next =
    λ level u. let w = at_level s b b'.next first g n m own level u in
    (subst (λ z. NodeIsSpaced s level b.next (node_tree n) z) (sym braced) (line_is_laid s b b'.next first g n m same none level w).0, w.0) in
    let rest : drop b'.at b'.nodes.items ≡ following b = rw (is, at) (drop-set-lt (b.at + 1) b.nodes.items b.at x (omega arith)) in
    let first : drop b.at b.nodes.items ≡ n ∷ following b = drop_more b.nodes.items b.at n h ∙ ap (λ x. x ∷ following b) e in (
      line_on s above b b' x n h is at l t (λ level u. subst (λ y. NodeIsSpaced s level b.next (node_tree y) (node_tree x) × PassesAt s (node_tree y) b'.next) (sym e) (laid level u)),
      omega (arith, line_counted following n (following b) above, ap (λ r. count_left following r above) rest, ap (λ r. count_left following r above) first),
    )

block_is_there : (o : Option KdlDocument) → 0 < length (nodes_in o) → (d : KdlDocument) × (o ≡ Some d)
block_is_there None h = absurd (omega (arith, h))
block_is_there (Some d) h = (d, refl)

nodes_taken : (o : Option KdlDocument) (r v : Vec KdlNode Global) → 0 < length (nodes_in o) → MatchOption o (r ≡ v) (λ d. r ≡ (out-KdlDocument d).nodes) → r.items ≡ nodes_in o
nodes_taken None r v h m = absurd (omega (arith, h))
nodes_taken (Some d) r v h m = ap (λ (x : Vec KdlNode Global). x.items) m

-- what is so once the block of the next node, which n was and m is, is opened: b was the innermost block, and b1 is that with the node laid out
pub record BlockOpens (s : Layout) (above : List LayoutFrame) (b b1 outer inner : LayoutFrame) (n m : KdlNode) : Type 0 where
  pub all : whole (above ++ outer ∷ []) inner ≡ outermost above (map node_tree (set b.nodes.items b.at m))
  pub bare : bare_node (node_tree m) ≡ bare_node (node_tree n) → map bare_node (whole (above ++ outer ∷ []) inner) ≡ map bare_node (whole above b)
  pub goes_on : inner.at ≡ 0 → inner.level ≡ b1.level + 1
      → (text_of b.before ≡ indentation (settings s.config) b.level → text_of inner.before ≡ indentation (settings s.config) inner.level)
      → (text_of b.before ≡ indentation (settings s.config) b.level → Own s b.level b outer.next inner.next outer.around n m) → GoesOn s above b (above ++ outer ∷ []) inner

-- the next node, of which the nodes in its block are taken out
module _ (s : Layout) (above : List LayoutFrame) (b b1 outer inner : LayoutFrame) (n m x x' : KdlNode) (v r : Vec KdlNode Global)
    (there : b.at < length b.nodes.items) (next : get_or b.nodes.items b.at n ≡ n)
    (items : b1.nodes.items ≡ set b.nodes.items b.at m) (place : b1.at ≡ b.at) (open_level : b1.level ≡ b.level) (open_before : b1.before ≡ b.before)
    (again : get_or b1.nodes.items b1.at x ≡ x)
    (same : child_nodes m ≡ child_nodes n) (some : 0 < length (child_nodes m))
    (had : MatchOption (out-KdlNode x).children (r ≡ v) (λ d. r ≡ (out-KdlDocument d).nodes))
    (has : out-KdlNode x' ≡ record (out-KdlNode x) { children = option_map (λ d. with_nodes d v) (out-KdlNode x).children })
    (exchanged : outer.nodes.items ≡ set b1.nodes.items b1.at x') (outer_at : outer.at ≡ b1.at) (outer_level : outer.level ≡ b1.level) (outer_before : outer.before ≡ b1.before)
    (inner_nodes : inner.nodes.items ≡ r.items) where
  x_is : x ≡ m
  x_is = sym again ∙ ap (λ z. get_or z b1.at x) items ∙ ap (λ i. get_or (set b.nodes.items b.at m) i x) place ∙ get_or-set_same b.nodes.items b.at m x there

  taken : inner.nodes.items ≡ child_nodes m
  taken = inner_nodes ∙ nodes_taken (out-KdlNode x).children r v (subst (λ z. 0 < length (child_nodes z)) (sym x_is) some) had ∙ ap child_nodes x_is

  outer_items : outer.nodes.items ≡ set b.nodes.items b.at x'
  outer_items = exchanged ∙ ap (λ z. set z b1.at x') items ∙ ap (λ i. set (set b.nodes.items b.at m) i x') place ∙ set-set b.nodes.items b.at m x'

  as_before : (ms : List Node) → filled x' ms ≡ filled m ms
  as_before ms = filled_changed x x' v ms has ∙ ap (λ z. filled z ms) x_is

  whole_block_next : whole (above ++ outer ∷ []) inner ≡ outermost above (map node_tree (set b.nodes.items b.at m))
  whole_block_next =
      let f : KdlNode → Node = λ z. filled z (map node_tree inner.nodes.items) in
      let one : f x' ≡ node_tree m = as_before (map node_tree inner.nodes.items) ∙ ap (λ z. filled m (map node_tree z)) taken ∙ sym (node_is m) in
      let two : with_at f outer.nodes.items outer.at ≡ map node_tree (set b.nodes.items b.at m) =
      ap (λ z. with_at f z outer.at) outer_items ∙ ap (λ i. with_at f (set b.nodes.items b.at x') i) (outer_at ∙ place) ∙ with_at_set f b.nodes.items b.at x' m there one in
      outermost_more above outer (map node_tree inner.nodes.items) ∙ ap (outermost above) two

  bare_block_next : bare_node (node_tree m) ≡ bare_node (node_tree n) → map bare_node (whole (above ++ outer ∷ []) inner) ≡ map bare_node (whole above b)
  bare_block_next e =
      ap (map bare_node) whole_block_next
      ∙ bare_outermost above (map node_tree (set b.nodes.items b.at m)) (map node_tree b.nodes.items) (bare_set b.nodes.items b.at m n there (e ∙ ap (λ z. bare_node (node_tree z)) (sym next)))

  block_goes_on : inner.at ≡ 0 → inner.level ≡ b1.level + 1
      → (text_of b.before ≡ indentation (settings s.config) b.level → text_of inner.before ≡ indentation (settings s.config) inner.level)
      → (text_of b.before ≡ indentation (settings s.config) b.level → Own s b.level b outer.next inner.next outer.around n m) → GoesOn s above b (above ++ outer ∷ []) inner
  block_goes_on first l t own =
      let w = block_is_there (out-KdlNode n).children (subst (λ z. 0 < length z) same some) in
      let laid : (level : ℕ) → IsAtLevel s level b
      → IsSpacedBut s level b.next (node_tree (get_or b.nodes.items b.at n)) inner.next outer.around (map node_tree (child_nodes n)) x' × IsAtLevel s (level + 1) inner × PassesAt s (node_tree (get_or b.nodes.items b.at n)) outer.next =
      λ level u.
      let w = at_level s b outer.next inner.next outer.around n m own level u in (
        λ ms z.
            let v = w.1 ms z in
            let same_lined = sym (as_before (lined outer.around ms)) in (
              subst (λ (y : KdlNode). NodeIsSpaced s level b.next (node_tree y) (enclosed outer.around x' ms)) (sym next)
                  (subst (λ (y : Node). NodeIsSpaced s level b.next (node_tree n) (with_braces (braces_of outer.around) y)) same_lined v.0),
              λ ok. subst (λ (y : Node). StaysAs (settings s.config) y (enclosed outer.around x' ms)) (sym (as_before ms))
                  (subst (λ (y : Node). StaysAs (settings s.config) (filled m ms) (with_braces (braces_of outer.around) y)) same_lined (v.1 ok)),
            ),
        let k : inner.level ≡ level + 1 = l ∙ ap (λ z. z + 1) (open_level ∙ u.0) in (k, t (u.1 ∙ ap (indentation (settings s.config)) (sym u.0)) ∙ ap (indentation (settings s.config)) k),
        rw next w.0,
      ) in
      let rest : following outer ≡ following b =
      ap (λ z. drop (outer.at + 1) z) outer_items ∙ ap (λ i. drop (i + 1) (set b.nodes.items b.at x')) (outer_at ∙ place) ∙ drop-set-lt (b.at + 1) b.nodes.items b.at x' (omega arith) in
      let next_is : drop b.at b.nodes.items ≡ n ∷ following b = drop_more b.nodes.items b.at n there ∙ ap (λ z. z ∷ following b) next in
      let start : drop inner.at inner.nodes.items ≡ child_nodes n = ap (λ i. drop i inner.nodes.items) first ∙ taken ∙ same in
      let is : child_nodes n ≡ (out-KdlDocument w.0).nodes.items = ap nodes_in w.1 in (
        block_on s above b outer inner (child_nodes n) x' n there outer_items (outer_at ∙ place) (outer_level ∙ open_level) (outer_before ∙ open_before) (taken ∙ same) first laid,
        omega (arith, block_counted following n w.0 outer above w.1, ap (λ z. count_left following z (above ++ outer ∷ [])) (start ∙ is), ap (λ z. count_left following (n ∷ z) above) rest, ap (λ z. count_left following z above) next_is),
      )

  pub open_block : BlockOpens s above b b1 outer inner n m
  open_block = record { all = whole_block_next; bare = bare_block_next; goes_on = block_goes_on }

-- a layout from the start to the end
pub all_laid : {E : Type 0} (r : Result (Unit {0}) E) (l : Layout) (level : ℕ) (first : Before) (olds xs : List KdlNode) (above above' : List LayoutFrame) (b b' : LayoutFrame)
    → above ≡ [] → b.nodes.items ≡ olds → b.at ≡ 0 → b.level ≡ level → text_of b.before ≡ indentation (settings l.config) level → b.next ≡ first
    → map node_tree xs ≡ whole above' b'
    → IfOk r (λ _. (level : ℕ) (c : Before) (os : List Node) → IsUnderWay l level c os above b → (above' ≡ []) × NodesAreSpaced l level c os (map node_tree b'.nodes.items))
    → IfOk r (λ _. NodesAreSpaced l level first (map node_tree olds) (map node_tree xs))
all_laid (Ok u) l level first olds xs above above' b b' none holds start y t next tree f =
    let begun : IsUnderWay l level first (map node_tree olds) above b =
    subst (λ z. IsUnderWay l level first (map node_tree olds) z b) (sym none) ((y, t), rw (holds, start) (next, refl)) in
    let w = f level first (map node_tree olds) begun in
    rw (tree ∙ ap (λ z. whole z b') w.0) w.1
all_laid (Err e) l level first olds xs above above' b b' none holds start y t next tree f = f
