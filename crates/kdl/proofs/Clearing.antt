-- Clearing formats without recursion: what is cleared, and what is left to clear, turn by turn.
use Rattle.kdl.proofs.Common.{◌≡◌, ℕ, ◌+◌, ◌-◌, ◌<◌, ◌≤◌, true, false, List, [], ◌∷◌, ◌++◌, length, map, get_or, set, refl, ap, ◌∙◌, sym, arith, append_assoc, Option, None, Some, option_map, is_some, subst, Bool, cond, drop, not, All, append-nil, length-append, drop_more, drop-set-lt, All-nil, All-cons, All-head, All-tail, Entry, unspelled, NodeFormat, Head, Node, node, no_children, children, Document, document, listed_nodes, children_of, Children, Nodes, none, first, node_format_tree, document_format_tree, cleared_document, due, IsAlone, head_tree, node_tree, nodes_tree, document_tree, KdlNode, KdlDocument, out-KdlDocument, out-KdlNode}
use Rattle.std.proofs.lemmas.List.{get_or_at, set_at, map_push, length_push, drop_at}
use Rattle.std.proofs.lemmas.List.Elements.{All-push, All-weaker}
use Rattle.kdl_entry.specs.Tree.{cleared}
use Rattle.kdl_layout.proofs.Formatting.PrintsCanonical.{unspelled_twice}
use Rattle.kdl.specs.Cleared.{cleared_head, cleared_node, cleared_nodes}
use Rattle.kdl.specs.Internal.Due.{formed, is_due, AreDueFrom, ExchangedAt, HasInstead, BecomesDue}
use Rattle.kdl.proofs.Trees.{document_tree_out, node_tree_out}

abbrev pub IsCleared : KdlNode → Type 0
IsCleared n = cleared_node (node_tree n) ≡ node_tree n

abbrev pub IsDue : KdlNode → Type 0
IsDue n = is_due n ≡ true

abbrev pub IsNotDue : KdlNode → Type 0
IsNotDue n = is_due n ≡ false

-- a document that is gone over: the first nodes are cleared, and the others are due
pub record ClearedSoFar (here : KdlDocument) (done left : List KdlNode) : Type 0 where
  pub nodes : (out-KdlDocument here).nodes.items ≡ done ++ left
  pub format : (out-KdlDocument here).format ≡ None
  pub cleared : All IsCleared done
  pub due : All IsDue left

-- what it becomes
abbrev pub become : KdlDocument → List KdlNode → List KdlNode → Document
become here done left = document None (out-KdlDocument here).span (listed_nodes (map node_tree done ++ map cleared_node (map node_tree left)))

-- a document above: the block of one node is being cleared, the nodes before are cleared, and those after are due
pub record IsOpen (above : KdlDocument) (done : List KdlNode) (n : KdlNode) (left : List KdlNode) : Type 0 where
  pub nodes : (out-KdlDocument above).nodes.items ≡ done ++ n ∷ left
  pub format : (out-KdlDocument above).format ≡ None
  pub cleared : All IsCleared done
  pub head : cleared_head (head_tree (out-KdlNode n)) ≡ head_tree (out-KdlNode n)
  pub due : All IsDue left

-- what it becomes, where the block becomes t
abbrev pub refilled : KdlDocument → List KdlNode → KdlNode → List KdlNode → Document → Document
refilled above done n left t = document None (out-KdlDocument above).span (listed_nodes (map node_tree done ++ node (head_tree (out-KdlNode n)) (children t) ∷ map cleared_node (map node_tree left)))

-- where the document that is gone over becomes t, the outermost becomes w
pub data Whole : Option KdlDocument → Document → Document → Type 0 where
  top : (t : Document) → Whole None t t
  inside : (above : KdlDocument) (done left : List KdlNode) (n : KdlNode) (t w : Document) → IsOpen above done n left → Whole (out-KdlNode n).children (refilled above done n left t) w → Whole (Some above) t w

-- before each turn
pub record Walk (here : KdlDocument) (above : Option KdlDocument) (at : ℕ) (w : Document) : Type 0 where
  pub done : List KdlNode
  pub left : List KdlNode
  pub spot : ClearedSoFar here done left
  pub place : length done ≡ at
  pub whole : Whole above (become here done left) w

-- clearing twice
entry_twice : (e : Entry) → cleared (cleared e) ≡ cleared e
entry_twice e = rw (unspelled_twice e.ty, unspelled_twice e.name) refl

entries_twice : (es : List Entry) → map cleared (map cleared es) ≡ map cleared es
entries_twice [] = refl
entries_twice (e ∷ es) = rw (entry_twice e, entries_twice es) refl

head_twice : (h : Head) → cleared_head (cleared_head h) ≡ cleared_head h
head_twice h = ap (λ es. record h { name = unspelled h.name; entries = es; format = None }) (entries_twice h.entries)

all_cleared : (ns : List Node) → listed_nodes (map cleared_node ns) ≡ cleared_nodes (listed_nodes ns)
all_cleared [] = refl
all_cleared (n ∷ ns) = rw (all_cleared ns) refl

due_cleared : (ns : List Node) → map cleared_node (map due ns) ≡ map cleared_node ns
due_cleared [] = refl
due_cleared (node h k ∷ ns) = ap (λ z. cleared_node (node h k) ∷ z) (due_cleared ns)

cleared_same : (ns : List KdlNode) → All IsCleared ns → map cleared_node (map node_tree ns) ≡ map node_tree ns
cleared_same [] h = refl
cleared_same (n ∷ ns) h = rw (All-head IsCleared n ns h, cleared_same ns (All-tail IsCleared n ns h)) refl

-- the trees of nodes and documents
pub node_is : (n : KdlNode) (h : Head) (o : Option KdlDocument) → head_tree (out-KdlNode n) ≡ h → (out-KdlNode n).children ≡ o → node_tree n ≡ node h (children_of (option_map document_tree o))
node_is n h o e k = node_tree_out n ∙ ap (λ g. node g (children_of (option_map document_tree (out-KdlNode n).children))) e ∙ ap (λ p. node h (children_of (option_map document_tree p))) k

document_is : (d : KdlDocument) (ns : List Node) → (out-KdlDocument d).format ≡ None → map node_tree (out-KdlDocument d).nodes.items ≡ ns → document_tree d ≡ document None (out-KdlDocument d).span (listed_nodes ns)
document_is d ns f e =
    document_tree_out d
    ∙ ap (λ o. document (option_map document_format_tree o) (out-KdlDocument d).span (nodes_tree (out-KdlDocument d).nodes.items)) f
    ∙ ap (λ z. document None (out-KdlDocument d).span (listed_nodes z)) e

cleared_is : (d : KdlDocument) → cleared_document (document_tree d) ≡ document None (out-KdlDocument d).span (listed_nodes (map cleared_node (map node_tree (out-KdlDocument d).nodes.items)))
cleared_is d = ap cleared_document (document_tree_out d) ∙ ap (document None (out-KdlDocument d).span) (sym (all_cleared (map node_tree (out-KdlDocument d).nodes.items)))

-- due or not
abbrev pub tree_format : Node → Option NodeFormat
tree_format (node h k) = h.format

pub format_is : (n : KdlNode) → is_some (tree_format (node_tree n)) ≡ is_due n
format_is n =
    ap (λ t. is_some (tree_format t)) (node_tree_out n)
    ∙ (elim (out-KdlNode n).format as (λ o. is_some (option_map node_format_tree o) ≡ is_some o) [ None ↦ refl | Some f ↦ refl ])

cleared_format : (t : Node) → is_some (tree_format (cleared_node t)) ≡ false
cleared_format (node h k) = refl

pub cleared_not_due : (n : KdlNode) → IsCleared n → IsNotDue n
cleared_not_due n e = sym (format_is n) ∙ ap (λ t. is_some (tree_format t)) (sym e) ∙ cleared_format (node_tree n)

pub open_not_due : (n : KdlNode) → cleared_head (head_tree (out-KdlNode n)) ≡ head_tree (out-KdlNode n) → IsNotDue n
open_not_due n e = sym (format_is n) ∙ ap (λ t. is_some (tree_format t)) (node_tree_out n) ∙ ap (λ h. is_some h.format) (sym e)

due_format : (t : Node) → is_some (tree_format (due t)) ≡ true
due_format (node h k) = elim h.format as (λ o. is_some (formed o) ≡ true) [ None ↦ refl | Some f ↦ refl ]

all_due : (xs : List KdlNode) (ys : List Node) → map node_tree xs ≡ map due ys → All IsDue xs
all_due [] ys e = All-nil IsDue
all_due (x ∷ xs) [] e = absurd (cc)
all_due (x ∷ xs) (y ∷ ys) e =
    let a : node_tree x ≡ due y = cc in
    let b : map node_tree xs ≡ map due ys = cc in
    All-cons IsDue x xs (sym (format_is x) ∙ ap (λ t. is_some (tree_format t)) a ∙ due_format y) (all_due xs ys b)

due_spot : (old new : KdlDocument) → BecomesDue old new → ClearedSoFar new [] (out-KdlDocument new).nodes.items
due_spot old new m = record {
  nodes = refl;
  format = m.format;
  cleared = All-nil IsCleared;
  due = all_due (out-KdlDocument new).nodes.items (map node_tree (out-KdlDocument old).nodes.items) m.nodes;
}

due_becomes : (old new : KdlDocument) → BecomesDue old new → cleared_document (document_tree old) ≡ become new [] (out-KdlDocument new).nodes.items
due_becomes old new m =
    let ns = map node_tree (out-KdlDocument old).nodes.items in
    cleared_is old
    ∙ ap (λ s. document None s (listed_nodes (map cleared_node ns))) (sym m.span)
    ∙ ap (λ z. document None (out-KdlDocument new).span (listed_nodes z)) (sym (due_cleared ns))
    ∙ ap (λ z. document None (out-KdlDocument new).span (listed_nodes (map cleared_node z))) (sym m.nodes)

-- before the first turn
pub begun : (old here : KdlDocument) → BecomesDue old here → Walk here None 0 (cleared_document (document_tree old))
begun old here m = record {
  done = [];
  left = (out-KdlDocument here).nodes.items;
  spot = due_spot old here m;
  place = refl;
  whole = subst (λ t. Whole None t (cleared_document (document_tree old))) (due_becomes old here m) (top (cleared_document (document_tree old)));
}

-- there is a node at the place
pub record AtNode (here : KdlDocument) (above : Option KdlDocument) (at : ℕ) (w : Document) : Type 0 where
  pub done : List KdlNode
  pub n : KdlNode
  pub left : List KdlNode
  pub spot : ClearedSoFar here done (n ∷ left)
  pub place : length done ≡ at
  pub whole : Whole above (become here done (n ∷ left)) w

at_first : (here : KdlDocument) (above : Option KdlDocument) (at : ℕ) (w : Document) (done left : List KdlNode) → ClearedSoFar here done left → length done ≡ at → Whole above (become here done left) w
    → at < length (out-KdlDocument here).nodes.items → AtNode here above at w
at_first here above at w done [] s p k h = absurd (omega (arith, ap length s.nodes, length-append done [], p))
at_first here above at w done (n ∷ left) s p k h = record { done = done; n = n; left = left; spot = s; place = p; whole = k }

pub at_node : (here : KdlDocument) (above : Option KdlDocument) (at : ℕ) (w : Document) → Walk here above at w → at < length (out-KdlDocument here).nodes.items → AtNode here above at w
at_node here above at w k h = at_first here above at w k.done k.left k.spot k.place k.whole h

-- what is exchanged at the place
pub record Exchanged (new : KdlDocument) (done : List KdlNode) (n was is : KdlNode) (left : List KdlNode) : Type 0 where
  pub same : was ≡ n
  pub nodes : (out-KdlDocument new).nodes.items ≡ done ++ is ∷ left

pub exchanged : (old new : KdlDocument) (at : ℕ) (R : KdlNode → KdlNode → Type 0) (x : ExchangedAt old new at R) (done : List KdlNode) (n : KdlNode) (left : List KdlNode)
    → (out-KdlDocument old).nodes.items ≡ done ++ n ∷ left → length done ≡ at → Exchanged new done n x.was x.is left
exchanged old new at R x done n left e p = record {
  same = sym (x.found n) ∙ ap (λ xs. get_or xs at n) e ∙ get_or_at done n left n at p;
  nodes = x.nodes ∙ ap (λ xs. set xs at x.is) e ∙ set_at done n left x.is at p;
}

-- a node goes to those that are cleared
one_more : (done : List KdlNode) (m : KdlNode) (t : Node) (ts : List Node) → node_tree m ≡ t → map node_tree done ++ t ∷ ts ≡ map node_tree (done ++ m ∷ []) ++ ts
one_more done m t ts e =
    ap (λ z. map node_tree done ++ z ∷ ts) (sym e)
    ∙ sym (append_assoc (map node_tree done) (node_tree m ∷ []) ts)
    ∙ ap (λ z. z ++ ts) (sym (map_push node_tree done m))

-- the tree of a node without a block
leaf_tree : (n m : KdlNode) → IsAlone None n m → node_tree m ≡ cleared_node (node_tree n)
leaf_tree n m a = node_is m (cleared_head (head_tree (out-KdlNode n))) None a.head a.none ∙ ap cleared_node (sym (node_is n (head_tree (out-KdlNode n)) None refl (sym a.had)))

cleared_leaf : (n m : KdlNode) → IsAlone None n m → IsCleared m
cleared_leaf n m a =
    let h = head_tree (out-KdlNode n) in
    let e : node_tree m ≡ node (cleared_head h) no_children = node_is m (cleared_head h) None a.head a.none in
    ap cleared_node e ∙ ap (λ g. node g no_children) (head_twice h) ∙ sym e

-- a node without a block is cleared
pub leaf_cleared : (here new : KdlDocument) (above : Option KdlDocument) (at : ℕ) (w : Document) → AtNode here above at w → ExchangedAt here new at (IsAlone None) → Walk new above (at + 1) w
leaf_cleared here new above at w k x =
    let e = exchanged here new at (IsAlone None) x k.done k.n k.left k.spot.nodes k.place in
    let becomes : become here k.done (k.n ∷ k.left) ≡ become new (k.done ++ x.is ∷ []) k.left =
    ap (λ s. document None s (listed_nodes (map node_tree k.done ++ map cleared_node (map node_tree (k.n ∷ k.left))))) (sym x.span)
    ∙ ap (λ z. document None (out-KdlDocument new).span (listed_nodes z)) (one_more k.done x.is (cleared_node (node_tree k.n)) (map cleared_node (map node_tree k.left)) (leaf_tree x.was x.is x.holds ∙ ap (λ n. cleared_node (node_tree n)) e.same))
    in
    record {
      done = k.done ++ x.is ∷ [];
      left = k.left;
      spot = record {
        nodes = e.nodes ∙ sym (append_assoc k.done (x.is ∷ []) k.left);
        format = x.format ∙ k.spot.format;
        cleared = All-push IsCleared k.done x.is k.spot.cleared (cleared_leaf x.was x.is x.holds);
        due = All-tail IsDue k.n k.left k.spot.due;
      };
      place = length_push k.done x.is ∙ ap (λ i. i + 1) k.place;
      whole = subst (λ t. Whole above t w) becomes k.whole;
    }

-- the block of a node is entered: the node holds the document above
pub record Entered (two : KdlDocument) (above : Option KdlDocument) (block : KdlDocument) (done : List KdlNode) (n is : KdlNode) (left : List KdlNode) : Type 0 where
  pub is_open : IsOpen two done is left
  pub head : head_tree (out-KdlNode is) ≡ cleared_head (head_tree (out-KdlNode n))
  pub holds : (out-KdlNode is).children ≡ above
  pub had : (out-KdlNode n).children ≡ Some block

pub entered : (here one two : KdlDocument) (above other : Option KdlDocument) (at : ℕ) (w : Document) (block : KdlDocument) (k : AtNode here above at w) → ExchangedAt here one at (IsAlone (Some block))
    → (y : ExchangedAt one two at (HasInstead above other)) → Entered two above block k.done k.n y.is k.left
entered here one two above other at w block k x y =
    let e = exchanged here one at (IsAlone (Some block)) x k.done k.n k.left k.spot.nodes k.place in
    let f = exchanged one two at (HasInstead above other) y k.done x.is k.left e.nodes k.place in
    let h = head_tree (out-KdlNode k.n) in
    let head : head_tree (out-KdlNode y.is) ≡ cleared_head h = ap head_tree y.holds.has ∙ ap (λ n. head_tree (out-KdlNode n)) f.same ∙ x.holds.head ∙ ap (λ n. cleared_head (head_tree (out-KdlNode n))) e.same in
    record {
      is_open = record {
        nodes = f.nodes;
        format = y.format ∙ x.format ∙ k.spot.format;
        cleared = k.spot.cleared;
        head = ap cleared_head head ∙ head_twice h ∙ sym head;
        due = All-tail IsDue k.n k.left k.spot.due;
      };
      head = head;
      holds = ap (λ n. n.children) y.holds.has;
      had = ap (λ n. (out-KdlNode n).children) (sym e.same) ∙ sym x.holds.had;
    }

pub block_entered : (here one two : KdlDocument) (above other : Option KdlDocument) (at : ℕ) (w : Document) (block new : KdlDocument) → AtNode here above at w → ExchangedAt here one at (IsAlone (Some block))
    → ExchangedAt one two at (HasInstead above other) → BecomesDue block new → Walk new (Some two) 0 w
block_entered here one two above other at w block new k x y m =
    let e = entered here one two above other at w block k x y in
    let h = head_tree (out-KdlNode k.n) in
    let t = become new [] (out-KdlDocument new).nodes.items in
    let node_becomes : cleared_node (node_tree k.n) ≡ node (head_tree (out-KdlNode y.is)) (children t) =
    ap cleared_node (node_is k.n h (Some block) refl e.had)
    ∙ ap (λ d. node (cleared_head h) (children d)) (due_becomes block new m)
    ∙ ap (λ g. node g (children t)) (sym e.head)
    in
    let becomes : become here k.done (k.n ∷ k.left) ≡ refilled two k.done y.is k.left t =
    ap (λ s. document None s (listed_nodes (map node_tree k.done ++ map cleared_node (map node_tree (k.n ∷ k.left))))) (sym (y.span ∙ x.span))
    ∙ ap (λ z. document None (out-KdlDocument two).span (listed_nodes (map node_tree k.done ++ z ∷ map cleared_node (map node_tree k.left)))) node_becomes
    in
    record {
      done = [];
      left = (out-KdlDocument new).nodes.items;
      spot = due_spot block new m;
      place = refl;
      whole = inside two k.done k.left y.is t w e.is_open (subst (λ o. Whole o (refilled two k.done y.is k.left t) w) (sym e.holds) (subst (λ d. Whole above d w) becomes k.whole));
    }

-- all nodes are cleared
pub record Finished (here : KdlDocument) (above : Option KdlDocument) (w : Document) : Type 0 where
  pub cleared : cleared_document (document_tree here) ≡ document_tree here
  pub whole : Whole above (document_tree here) w

at_last : (here : KdlDocument) (above : Option KdlDocument) (at : ℕ) (w : Document) (done left : List KdlNode) → ClearedSoFar here done left → length done ≡ at → Whole above (become here done left) w
    → length (out-KdlDocument here).nodes.items ≤ at → Finished here above w
at_last here above at w done (n ∷ left) s p k h = absurd (omega (arith, ap length s.nodes, length-append done (n ∷ left), p))
at_last here above at w done [] s p k h =
    let ns = map node_tree done in
    let tree : document_tree here ≡ document None (out-KdlDocument here).span (listed_nodes ns) = document_is here ns s.format (ap (map node_tree) (s.nodes ∙ append-nil done)) in
    record {
      cleared = ap cleared_document tree ∙ ap (document None (out-KdlDocument here).span) (sym (all_cleared ns) ∙ ap listed_nodes (cleared_same done s.cleared)) ∙ sym tree;
      whole = subst (λ t. Whole above t w) (ap (λ z. document None (out-KdlDocument here).span (listed_nodes z)) (append-nil ns) ∙ sym tree) k;
    }

pub finished : (here : KdlDocument) (above : Option KdlDocument) (at : ℕ) (w : Document) → Walk here above at w → length (out-KdlDocument here).nodes.items ≤ at → Finished here above w
finished here above at w k h = at_last here above at w k.done k.left k.spot k.place k.whole h

-- there is none above
pub outermost_is : (t w : Document) → Whole None t w → t ≡ w
outermost_is t w (top s) = refl

-- the document above
pub record Opened (above : KdlDocument) (t w : Document) : Type 0 where
  pub done : List KdlNode
  pub n : KdlNode
  pub left : List KdlNode
  pub is_open : IsOpen above done n left
  pub whole : Whole (out-KdlNode n).children (refilled above done n left t) w

pub opened : (above : KdlDocument) (t w : Document) → Whole (Some above) t w → Opened above t w
opened above t w (inside p done left n s v o k) = record { done = done; n = n; left = left; is_open = o; whole = k }

-- the way up: the block is cleared, and the node that holds it is before this place
pub record Climb (here above : KdlDocument) (at : ℕ) (w : Document) : Type 0 where
  pub cleared : cleared_document (document_tree here) ≡ document_tree here
  pub opened : Opened above (document_tree here) w
  pub place : at ≡ length opened.done + 1

due_from : (above : KdlDocument) (t w : Document) (at : ℕ) (o : Opened above t w) → AreDueFrom above at → at ≡ length o.done + 1
due_from above t w at o f =
    f (o.done ++ o.n ∷ []) o.left (o.is_open.nodes ∙ sym (append_assoc o.done (o.n ∷ []) o.left))
    (All-push IsNotDue o.done o.n (All-weaker IsCleared IsNotDue cleared_not_due o.done o.is_open.cleared) (open_not_due o.n o.is_open.head))
    o.is_open.due
    ∙ length_push o.done o.n

pub climb : (here above : KdlDocument) (end at : ℕ) (w : Document) → Walk here (Some above) end w → length (out-KdlDocument here).nodes.items ≤ end → AreDueFrom above at → Climb here above at w
climb here above end at w k h f =
    let e = finished here (Some above) end w k h in
    let o = opened above (document_tree here) w e.whole in
    record { cleared = e.cleared; opened = o; place = due_from above (document_tree here) w at o f }

pub climb_bound : (here above : KdlDocument) (at : ℕ) (w : Document) → Climb here above at w → (1 ≤ at) × (at - 1 < length (out-KdlDocument above).nodes.items)
climb_bound here above at w k = (
  omega (arith, k.place),
  omega (arith, k.place, ap length k.opened.is_open.nodes, length-append k.opened.done (k.opened.n ∷ k.opened.left)),
)

-- a block is left: it is in its node again
pub block_left : (here above new : KdlDocument) (other : Option KdlDocument) (at : ℕ) (w : Document) → Climb here above at w → ExchangedAt above new (at - 1) (HasInstead (Some here) other) → Walk new other at w
block_left here above new other at w k y =
    let o = k.opened in
    let e = exchanged above new (at - 1) (HasInstead (Some here) other) y o.done o.n o.left o.is_open.nodes (omega (arith, k.place)) in
    let h = head_tree (out-KdlNode o.n) in
    let head : head_tree (out-KdlNode y.is) ≡ h = ap head_tree y.holds.has ∙ ap (λ n. head_tree (out-KdlNode n)) e.same in
    let tree : node_tree y.is ≡ node h (children (document_tree here)) = node_is y.is h (Some here) head (ap (λ n. n.children) y.holds.has) in
    let had : (out-KdlNode o.n).children ≡ other = ap (λ n. (out-KdlNode n).children) (sym e.same) ∙ sym y.holds.had in
    let becomes : refilled above o.done o.n o.left (document_tree here) ≡ become new (o.done ++ y.is ∷ []) o.left =
    ap (λ s. document None s (listed_nodes (map node_tree o.done ++ node h (children (document_tree here)) ∷ map cleared_node (map node_tree o.left)))) (sym y.span)
    ∙ ap (λ z. document None (out-KdlDocument new).span (listed_nodes z)) (one_more o.done y.is (node h (children (document_tree here))) (map cleared_node (map node_tree o.left)) tree)
    in
    record {
      done = o.done ++ y.is ∷ [];
      left = o.left;
      spot = record {
        nodes = e.nodes ∙ sym (append_assoc o.done (y.is ∷ []) o.left);
        format = y.format ∙ o.is_open.format;
        cleared = All-push IsCleared o.done y.is o.is_open.cleared (ap cleared_node tree ∙ ap (λ g. node g (children (cleared_document (document_tree here)))) o.is_open.head ∙ ap (λ d. node h (children d)) k.cleared ∙ sym tree);
        due = o.is_open.due;
      };
      place = length_push o.done y.is ∙ sym k.place;
      whole = subst (λ d. Whole other d w) becomes (subst (λ b. Whole b (refilled above o.done o.n o.left (document_tree here)) w) had o.whole);
    }

-- how many nodes and blocks there are in nodes
abbrev mutual
  size_node : Node → ℕ
  size_node (node h k) = 1 + size_children k

  size_children : Children → ℕ
  size_children no_children = 0
  size_children (children d) = 1 + size_document d

  size_document : Document → ℕ
  size_document (document f span ns) = size_nodes ns

  pub size_nodes : Nodes → ℕ
  size_nodes none = 0
  size_nodes (first n ns) = size_node n + size_nodes ns

-- whether a node follows that is not due
abbrev goes_on : Nodes → Bool
goes_on none = false
goes_on (first n ns) = not (is_some (tree_format n))

-- how many are left after the nodes whose blocks are being cleared, with one for each of these
abbrev mutual
  pub left_above : Children → ℕ
  left_above no_children = 0
  left_above (children d) = left_around d

  left_around : Document → ℕ
  left_around (document f span ns) = 1 + left_after ns

  left_after : Nodes → ℕ
  left_after none = 0
  left_after (first n ns) = cond (goes_on ns) (left_after ns) (size_nodes ns + left_in n)

  left_in : Node → ℕ
  left_in (node h k) = left_above k

-- how much is left, before each turn
abbrev pub left_of : KdlDocument → Option KdlDocument → ℕ → ℕ
left_of here above at = size_nodes (nodes_tree (drop at (out-KdlDocument here).nodes.items)) + left_above (children_of (option_map document_tree above))

due_sizes : (ns : List Node) → size_nodes (listed_nodes (map due ns)) ≡ size_nodes (listed_nodes ns)
due_sizes [] = refl
due_sizes (node h k ∷ ns) = ap (λ i. size_node (node h k) + i) (due_sizes ns)

becoming_sizes : (old new : KdlDocument) → BecomesDue old new → size_nodes (nodes_tree (out-KdlDocument new).nodes.items) ≡ size_nodes (nodes_tree (out-KdlDocument old).nodes.items)
becoming_sizes old new m = ap (λ z. size_nodes (listed_nodes z)) m.nodes ∙ due_sizes (map node_tree (out-KdlDocument old).nodes.items)

-- after the open node
ends_there : (left : List KdlNode) → All IsDue left → goes_on (nodes_tree left) ≡ false
ends_there [] h = refl
ends_there (m ∷ left) h = ap not (format_is m ∙ All-head IsDue m left h)

not_due_goes_on : (n : KdlNode) (ns : Nodes) → IsNotDue n → goes_on (first (node_tree n) ns) ≡ true
not_due_goes_on n ns e = ap not (format_is n ∙ e)

left_at : (n : KdlNode) (left : List KdlNode) (o : Option KdlDocument) → (out-KdlNode n).children ≡ o → All IsDue left → left_after (nodes_tree (n ∷ left)) ≡ size_nodes (nodes_tree left) + left_above (children_of (option_map document_tree o))
left_at n left o e h =
    ap (λ b. cond b (left_after (nodes_tree left)) (size_nodes (nodes_tree left) + left_in (node_tree n))) (ends_there left h)
    ∙ ap (λ t. size_nodes (nodes_tree left) + left_in t) (node_tree_out n)
    ∙ ap (λ p. size_nodes (nodes_tree left) + left_above (children_of (option_map document_tree p))) e

left_open : (done : List KdlNode) (n : KdlNode) (left : List KdlNode) (o : Option KdlDocument) → All IsNotDue done → IsNotDue n → (out-KdlNode n).children ≡ o → All IsDue left
    → left_after (nodes_tree (done ++ n ∷ left)) ≡ size_nodes (nodes_tree left) + left_above (children_of (option_map document_tree o))
left_open [] n left o d f e h = left_at n left o e h
left_open (m ∷ []) n left o d f e h =
    ap (λ b. cond b (left_after (nodes_tree (n ∷ left))) (size_nodes (nodes_tree (n ∷ left)) + left_in (node_tree m))) (not_due_goes_on n (nodes_tree left) f)
    ∙ left_at n left o e h
left_open (m ∷ (k ∷ done)) n left o d f e h =
    let following = nodes_tree (k ∷ done ++ n ∷ left) in
    ap (λ b. cond b (left_after following) (size_nodes following + left_in (node_tree m))) (not_due_goes_on k (nodes_tree (done ++ n ∷ left)) (All-head IsNotDue k done (All-tail IsNotDue m (k ∷ done) d)))
    ∙ left_open (k ∷ done) n left o (All-tail IsNotDue m (k ∷ done) d) f e h

size_positive : (n : Node) → 1 ≤ size_node n
size_positive (node h k) = omega arith

-- the node at a place, and those after it
size_at : (here new : KdlDocument) (at : ℕ) (R : KdlNode → KdlNode → Type 0) → at < length (out-KdlDocument here).nodes.items → (x : ExchangedAt here new at R)
    → size_nodes (nodes_tree (drop at (out-KdlDocument here).nodes.items)) ≡ size_node (node_tree x.was) + size_nodes (nodes_tree (drop (at + 1) (out-KdlDocument here).nodes.items))
size_at here new at R h x =
    let xs = (out-KdlDocument here).nodes.items in
    ap (λ z. size_nodes (nodes_tree z)) (drop_more xs at x.was h)
    ∙ ap (λ n. size_node (node_tree n) + size_nodes (nodes_tree (drop (at + 1) xs))) (x.found x.was)

size_after : (here new : KdlDocument) (at : ℕ) (R : KdlNode → KdlNode → Type 0) → ExchangedAt here new at R
    → size_nodes (nodes_tree (drop (at + 1) (out-KdlDocument new).nodes.items)) ≡ size_nodes (nodes_tree (drop (at + 1) (out-KdlDocument here).nodes.items))
size_after here new at R x =
    ap (λ z. size_nodes (nodes_tree (drop (at + 1) z))) x.nodes ∙ ap (λ z. size_nodes (nodes_tree z)) (drop-set-lt (at + 1) (out-KdlDocument here).nodes.items at x.is (omega arith))

pub leaf_counted : (here new : KdlDocument) (above : Option KdlDocument) (at : ℕ) (R : KdlNode → KdlNode → Type 0) → at < length (out-KdlDocument here).nodes.items → ExchangedAt here new at R
    → left_of new above (at + 1) < left_of here above at
leaf_counted here new above at R h x = omega (arith, size_at here new at R h x, size_after here new at R x, size_positive (node_tree x.was))

-- what is above an open node
above_open : (above : KdlDocument) (done : List KdlNode) (n : KdlNode) (left : List KdlNode) (o : Option KdlDocument) → IsOpen above done n left → (out-KdlNode n).children ≡ o
    → left_above (children (document_tree above)) ≡ 1 + (size_nodes (nodes_tree left) + left_above (children_of (option_map document_tree o)))
above_open above done n left o k e =
    ap left_around (document_tree_out above)
    ∙ ap (λ z. 1 + left_after (nodes_tree z)) k.nodes
    ∙ ap (λ i. 1 + i) (left_open done n left o (All-weaker IsCleared IsNotDue cleared_not_due done k.cleared) (open_not_due n k.head) e k.due)

size_block : (n : KdlNode) (block : KdlDocument) → (out-KdlNode n).children ≡ Some block → size_node (node_tree n) ≡ 2 + size_nodes (nodes_tree (out-KdlDocument block).nodes.items)
size_block n block e =
    let sized : size_node (node_tree n) ≡ 1 + (1 + size_nodes (nodes_tree (out-KdlDocument block).nodes.items)) =
    ap size_node (node_is n (head_tree (out-KdlNode n)) (Some block) refl e) ∙ ap (λ d. 1 + (1 + size_document d)) (document_tree_out block)
    in
    omega (arith, sized)

pub block_counted : (here one two : KdlDocument) (above other : Option KdlDocument) (at : ℕ) (w : Document) (block new : KdlDocument) → AtNode here above at w → ExchangedAt here one at (IsAlone (Some block))
    → ExchangedAt one two at (HasInstead above other) → BecomesDue block new → left_of new (Some two) 0 < left_of here above at
block_counted here one two above other at w block new k x y m =
    let e = entered here one two above other at w block k x y in
    let here_is : size_nodes (nodes_tree (drop at (out-KdlDocument here).nodes.items)) ≡ size_node (node_tree k.n) + size_nodes (nodes_tree k.left) =
    ap (λ z. size_nodes (nodes_tree (drop at z))) k.spot.nodes ∙ ap (λ z. size_nodes (nodes_tree z)) (drop_at k.done (k.n ∷ k.left) at k.place)
    in
    omega (arith, here_is, size_block k.n block e.had, becoming_sizes block new m, above_open two k.done y.is k.left above e.is_open e.holds)

pub end_counted : (here above new : KdlDocument) (other : Option KdlDocument) (end at : ℕ) (w : Document) → Climb here above at w → ExchangedAt above new (at - 1) (HasInstead (Some here) other)
    → left_of new other at < left_of here (Some above) end
end_counted here above new other end at w k y =
    let o = k.opened in
    let e = exchanged above new (at - 1) (HasInstead (Some here) other) y o.done o.n o.left o.is_open.nodes (omega (arith, k.place)) in
    let had : (out-KdlNode o.n).children ≡ other = ap (λ n. (out-KdlNode n).children) (sym e.same) ∙ sym y.holds.had in
    let following : size_nodes (nodes_tree (drop at (out-KdlDocument new).nodes.items)) ≡ size_nodes (nodes_tree o.left) =
    ap (λ z. size_nodes (nodes_tree (drop at z))) (e.nodes ∙ sym (append_assoc o.done (y.is ∷ []) o.left))
    ∙ ap (λ z. size_nodes (nodes_tree z)) (drop_at (o.done ++ y.is ∷ []) o.left at (length_push o.done y.is ∙ sym k.place))
    in
    omega (arith, following, above_open above o.done o.n o.left other o.is_open had)
