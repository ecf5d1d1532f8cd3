-- Documents taken apart along a path: what is put into a block shows in the tree of the whole.
use Rattle.std.proofs.Common.{◌≡◌, ℕ, ◌+◌, ◌<◌, List, [], ◌∷◌, ◌++◌, Option, None, Some, ap, ◌∙◌, sym, refl, subst, length, drop, map, option_map, slice_get, slice_index_or, Vec, Global}
use Rattle.std.specs.Prelude.{option_and_then}
use Rattle.std.proofs.lemmas.List.{drop_more, map-set}
use Rattle.std.proofs.lemmas.Option.{slice_get-map}
use Rattle.std.specs.Vec.{with_item}
use Rattle.kdl_parts.specs.Formats.{document_format_tree}
use Rattle.kdl_grammar.specs.Tree.{Children, Document, Node, Nodes, children, children_of, document, listed_nodes, no_children}
use Rattle.kdl.specs.Words.{block_of, document_tree, entries_of, held_entries, held_nodes, node_tree, nodes_of, with_children, with_entries, with_node, with_nodes}
use Rattle.kdl.specs.declared.document.KdlDocument.{KdlDocument, out-KdlDocument}
use Rattle.kdl.specs.declared.node.KdlNode.{KdlNode, out-KdlNode}
use Rattle.kdl.specs.declared.document.KdlDocument.TheViews.{out-roll-KdlNode}
use Rattle.kdl_entry.specs.declared.entry.KdlEntry.{KdlEntry}
use Rattle.kdl.proofs.Trees.{document_tree_out, document_tree_roll, node_tree_out, node_tree_roll}
use Rattle.c_calls.specs.Changes.{changed_at, changed_below, changed_nth}
use Rattle.c_calls.specs.Internal.Opened.{HasEntered, IsOnTheWay, block_in, plugged, with_kids, with_kids_at}
use Rattle.c_calls.specs.Paths.{block_nodes, nodes_at}
use Rattle.c_calls.specs.declared.opened.Above.{Above}
use Rattle.c_calls.specs.declared.opened.Opened.{Opened}
use Rattle.c_calls.proofs.TreeSteps.{at_twice, below_goes, nth_agree, nth_ext, nth_past, nth_same, nth_set}

-- the trees of a document's nodes
abbrev trees : KdlDocument → List Node
trees d = map node_tree (nodes_of d)

tree_there : (d : KdlDocument) (i : ℕ) (n : KdlNode) → slice_get (nodes_of d) i ≡ Some n → slice_get (trees d) i ≡ Some (node_tree n)
tree_there d i n at = slice_get-map node_tree (nodes_of d) i ∙ ap (option_map node_tree) at

tree_absent : (d : KdlDocument) (i : ℕ) → slice_get (nodes_of d) i ≡ None → slice_get (trees d) i ≡ None
tree_absent d i at = slice_get-map node_tree (nodes_of d) i ∙ ap (option_map node_tree) at

-- a node with another block
pub kids_set : (n : KdlNode) (o : Option KdlDocument) → node_tree (with_children n o) ≡ with_kids (children_of (option_map document_tree o)) (node_tree n)
kids_set n o = node_tree_roll (record (out-KdlNode n) { children = o }) ∙ ap (with_kids (children_of (option_map document_tree o))) (sym (node_tree_out n))

kids_own : (n : KdlNode) (o : Option KdlDocument) → block_of n ≡ o → with_kids (children_of (option_map document_tree o)) (node_tree n) ≡ node_tree n
kids_own n o e =
    ap (λ p. with_kids (children_of (option_map document_tree p)) (node_tree n)) (sym e)
    ∙ ap (with_kids (children_of (option_map document_tree (block_of n)))) (node_tree_out n)
    ∙ sym (node_tree_out n)

-- the texts around the nodes of a document, and where it stood
abbrev around : KdlDocument → Nodes → Document
around d ns = document (option_map document_format_tree (out-KdlDocument d).format) (out-KdlDocument d).span ns

-- a document with another node at a place
pub node_set : (d : KdlDocument) (i : ℕ) (m : KdlNode) → document_tree (with_node d i m) ≡ changed_at (i ∷ []) (λ _. node_tree m) (document_tree d)
node_set d i m =
    let f : Node → Node = λ _. node_tree m in
    document_tree_roll (record (out-KdlDocument d) { nodes = with_item (out-KdlDocument d).nodes i m })
    ∙ ap (around d) (ap listed_nodes (map-set node_tree (nodes_of d) i m) ∙ nth_set i (trees d) (node_tree m) ∙ nth_ext i f (changed_below [] f) (listed_nodes (trees d)) (λ n. refl))
    ∙ ap (changed_at (i ∷ []) f) (sym (document_tree_out d))

-- a document with another block in a node
pub block_set : (d : KdlDocument) (i : ℕ) (n : KdlNode) (o : Option KdlDocument) → slice_get (nodes_of d) i ≡ Some n
    → document_tree (with_node d i (with_children n o)) ≡ with_kids_at i (children_of (option_map document_tree o)) (document_tree d)
block_set d i n o at =
    let k : Children = children_of (option_map document_tree o) in
    let m : KdlNode = with_children n o in
    document_tree_roll (record (out-KdlDocument d) { nodes = with_item (out-KdlDocument d).nodes i m })
    ∙ ap (around d) (ap listed_nodes (map-set node_tree (nodes_of d) i m) ∙ nth_set i (trees d) (node_tree m) ∙ nth_agree i (λ _. node_tree m) (with_kids k) (trees d) (node_tree n) (tree_there d i n at) (kids_set n o))
    ∙ ap (with_kids_at i k) (sym (document_tree_out d))

-- no block is there to be exchanged
pub block_absent : (d : KdlDocument) (i : ℕ) → block_in i d ≡ None → with_kids_at i no_children (document_tree d) ≡ document_tree d
block_absent d i none =
    ap (with_kids_at i no_children) (document_tree_out d) ∙ ap (around d) (go (slice_get (nodes_of d) i) refl none) ∙ sym (document_tree_out d)
  where
    go : (o : Option KdlNode) → slice_get (nodes_of d) i ≡ o → option_and_then block_of o ≡ None → changed_nth i (with_kids no_children) (listed_nodes (trees d)) ≡ listed_nodes (trees d)
    go None at e = nth_past i (with_kids no_children) (trees d) (tree_absent d i at)
    go (Some n) at e =
        nth_agree i (with_kids no_children) (λ m. m) (trees d) (node_tree n) (tree_there d i n at) (kids_own n None e) ∙ nth_same i (listed_nodes (trees d))

-- the block that is there, put back
pub block_back : (d : KdlDocument) (i : ℕ) (b : KdlDocument) → block_in i d ≡ Some b → with_kids_at i (children (document_tree b)) (document_tree d) ≡ document_tree d
block_back d i b there =
    ap (with_kids_at i (children (document_tree b))) (document_tree_out d) ∙ ap (around d) (go (slice_get (nodes_of d) i) refl there) ∙ sym (document_tree_out d)
  where
    go : (o : Option KdlNode) → slice_get (nodes_of d) i ≡ o → option_and_then block_of o ≡ Some b
        → changed_nth i (with_kids (children (document_tree b))) (listed_nodes (trees d)) ≡ listed_nodes (trees d)
    go None at e = absurd (cc)
    go (Some n) at e =
        nth_agree i (with_kids (children (document_tree b))) (λ m. m) (trees d) (node_tree n) (tree_there d i n at) (kids_own n (Some b) e) ∙ nth_same i (listed_nodes (trees d))

-- a path that goes on below the node at i
pub changed_in_block : (d : KdlDocument) (i : ℕ) (b : KdlDocument) (p : List ℕ) (j : ℕ) (f : Node → Node) → block_in i d ≡ Some b
    → changed_at (i ∷ p ++ j ∷ []) f (document_tree d) ≡ with_kids_at i (children (changed_at (p ++ j ∷ []) f (document_tree b))) (document_tree d)
changed_in_block d i b p j f there =
    let c : Document = changed_at (p ++ j ∷ []) f (document_tree b) in
    ap (changed_at (i ∷ p ++ j ∷ []) f) (document_tree_out d) ∙ ap (around d) (go (slice_get (nodes_of d) i) refl there) ∙ ap (with_kids_at i (children c)) (sym (document_tree_out d))
  where
    go : (o : Option KdlNode) → slice_get (nodes_of d) i ≡ o → option_and_then block_of o ≡ Some b
        → changed_nth i (changed_below (p ++ j ∷ []) f) (listed_nodes (trees d)) ≡ changed_nth i (with_kids (children (changed_at (p ++ j ∷ []) f (document_tree b)))) (listed_nodes (trees d))
    go None at e = absurd (cc)
    go (Some n) at e =
        nth_agree i (changed_below (p ++ j ∷ []) f) (with_kids (children (changed_at (p ++ j ∷ []) f (document_tree b)))) (trees d) (node_tree n) (tree_there d i n at)
        (below_goes p j f (node_tree n) (document_tree b) (kids_own n (Some b) e))

-- one document more above the block
pub plugged_last : (more : List Above) (a : Above) (c : Document) → plugged (more ++ a ∷ []) c ≡ plugged more (with_kids_at a.index (children c) (document_tree a.document))
plugged_last [] a c = refl
plugged_last (b ∷ more) a c = ap (λ x. with_kids_at b.index (children x) (document_tree b.document)) (plugged_last more a c)

-- one level further down, a block is put where it was put before
pub entered_plugs : (i : ℕ) (o p : Opened) (c : Document) → HasEntered i o p → plugged p.above.items c ≡ plugged o.above.items (with_kids_at i (children c) (document_tree o.block))
entered_plugs i o p c h =
    ap (λ more. plugged more c) h.above ∙ plugged_last o.above.items h.outer c
    ∙ ap (plugged o.above.items) (ap (λ k. with_kids_at k (children c) (document_tree h.outer.document)) h.index ∙ ap (with_kids_at i (children c)) h.without ∙ at_twice i (children c) no_children (document_tree o.block))

pub entered_whole : (i : ℕ) (o p : Opened) → HasEntered i o p → plugged p.above.items (document_tree p.block) ≡ plugged o.above.items (document_tree o.block)
entered_whole i o p h = entered_plugs i o p (document_tree p.block) h ∙ ap (plugged o.above.items) (block_back o.block i p.block h.block)

pub entered_changed : (i : ℕ) (o p : Opened) (q : List ℕ) (j : ℕ) (f : Node → Node) → HasEntered i o p
    → plugged p.above.items (changed_at (q ++ j ∷ []) f (document_tree p.block)) ≡ plugged o.above.items (changed_at (i ∷ q ++ j ∷ []) f (document_tree o.block))
entered_changed i o p q j f h =
    entered_plugs i o p (changed_at (q ++ j ∷ []) f (document_tree p.block)) h ∙ ap (plugged o.above.items) (sym (changed_in_block o.block i p.block q j f h.block))

-- the same, of what a loan of the nodes leaves
pub put_in : (d : KdlDocument) (v : Vec KdlNode Global) (i : ℕ) (n m : KdlNode) (o : Option KdlDocument) → v ≡ held_nodes d → slice_get v.items i ≡ Some n → m ≡ with_children n o
    → document_tree (with_nodes d (with_item v i m)) ≡ with_kids_at i (children_of (option_map document_tree o)) (document_tree d)
put_in d v i n m o e at is =
    ap (λ w. document_tree (with_nodes d (with_item w i m))) e ∙ ap (λ k. document_tree (with_node d i k)) is
    ∙ block_set d i n o (ap (λ w. slice_get w.items i) (sym e) ∙ at)

pub none_in : (d : KdlDocument) (v : Vec KdlNode Global) (i : ℕ) (k : Children) → v ≡ held_nodes d → slice_get v.items i ≡ None
    → document_tree (with_nodes d v) ≡ with_kids_at i k (document_tree d)
none_in d v i k e at =
    let past : slice_get (trees d) i ≡ None = tree_absent d i (ap (λ w. slice_get w.items i) (sym e) ∙ at) in
    document_tree_roll (record (out-KdlDocument d) { nodes = v })
    ∙ ap (λ w. around d (listed_nodes (map node_tree w.items))) e
    ∙ ap (around d) (sym (nth_past i (with_kids k) (trees d) past))
    ∙ ap (with_kids_at i k) (sym (document_tree_out d))

pub no_block_in : (d : KdlDocument) (v : Vec KdlNode Global) (i : ℕ) → v ≡ held_nodes d → slice_get v.items i ≡ None → None ≡ block_in i d
no_block_in d v i e at = sym (ap (option_and_then block_of) (ap (λ w. slice_get w.items i) (sym e) ∙ at))

-- the entries of a node that is given others
pub entries_with : (n : KdlNode) (v : Vec KdlEntry Global) → entries_of (with_entries n v) ≡ v.items
entries_with n v = ap (λ y. y.entries.items) (out-roll-KdlNode (record (out-KdlNode n) { entries = v }))

pub own_entries : (n : KdlNode) (v : Vec KdlEntry Global) → with_entries n v ≡ with_entries n (held_entries (with_entries n v))
own_entries n v = ap (with_entries n) (sym (ap (λ y. y.entries) (out-roll-KdlNode (record (out-KdlNode n) { entries = v }))))

-- one level further down
pub goes_on : (i : ℕ) (rest path : List ℕ) (d : KdlDocument) (o p : Opened) → IsOnTheWay (i ∷ rest) path d o → HasEntered i o p → IsOnTheWay rest path d p
goes_on i rest path d o p w h = record {
  nodes = sym (ap (option_and_then (nodes_at rest)) (blocks (slice_get (nodes_of o.block) i) ∙ ap (option_map nodes_of) h.block)) ∙ w.nodes;
  whole = entered_whole i o p h ∙ w.whole;
  changed = λ j x. entered_changed i o p rest j (λ _. x) h ∙ w.changed j x;
}
  where
    blocks : (n : Option KdlNode) → option_and_then block_nodes n ≡ option_map nodes_of (option_and_then block_of n)
    blocks None = refl
    blocks (Some n) = refl

pub next : (j i : ℕ) (q path : List ℕ) (d : KdlDocument) (o p : Opened) → i < length path → q ≡ drop i path → j ≡ slice_index_or path i 0
    → IsOnTheWay q path d o → HasEntered j o p → IsOnTheWay (drop (i + 1) path) path d p
next j i q path d o p k e is w h =
    let whole : q ≡ j ∷ drop (i + 1) path = e ∙ drop_more path i 0 k ∙ ap (λ x. x ∷ drop (i + 1) path) (sym is) in
    goes_on j (drop (i + 1) path) path d o p (subst (λ r. IsOnTheWay r path d o) whole w) h

-- a document that is lent another node in a place
pub set_in : (d : KdlDocument) (v : Vec KdlNode Global) (i : ℕ) (m : KdlNode) → v ≡ held_nodes d → document_tree (with_nodes d (with_item v i m)) ≡ changed_at (i ∷ []) (λ _. node_tree m) (document_tree d)
set_in d v i m e = ap (λ w. document_tree (with_nodes d (with_item w i m))) e ∙ node_set d i m

pub same_in : (d : KdlDocument) (v : Vec KdlNode Global) (i : ℕ) (n m : KdlNode) → v ≡ held_nodes d → slice_get v.items i ≡ Some n → node_tree m ≡ node_tree n
    → document_tree (with_nodes d (with_item v i m)) ≡ document_tree d
same_in d v i n m e at same =
    let f : Node → Node = λ _. node_tree m in
    set_in d v i m e
    ∙ ap (changed_at (i ∷ []) f) (document_tree_out d)
    ∙ ap (around d) (nth_agree i (changed_below [] f) (λ x. x) (trees d) (node_tree n) (tree_there d i n (ap (λ w. slice_get w.items i) (sym e) ∙ at)) same ∙ nth_same i (listed_nodes (trees d)))
    ∙ sym (document_tree_out d)
