-- The items of a document that are still to be written, while its nodes are walked over a stack.
use Rattle.std.proofs.Common.{◌≡◌, ◌++◌, ◌<◌, ℕ, List, [], ◌∷◌, Option, None, Some, append_assoc, append-nil, ap, ◌∙◌, sym, refl, arith, length, length-append, map}
use mathlib.Core.Path.{subst}
use denote.Bor.{Bor}
use Rattle.std.proofs.lemmas.List.{map-append}
use Rattle.kdl.specs.Words.{NodeData, Nodes, node_says, said_children, said_entries, said_nodes}
use Rattle.kdl.specs.declared.node.KdlNode.{KdlNode}
use Rattle.kdl_grammar.specs.Data as data'
use Rattle.c_calls.specs.Flat.{Item, RowsSay, end_item, entry_item, flattened, head_items, listed, node_item, node_items}
use Rattle.c_calls.specs.declared.row.KdlRow.{KdlRow}
use Rattle.c_calls.proofs.FlatSteps.{none_said}

-- what follows the nodes at hand: for each block that is open, from the last on, an end and the nodes after it
abbrev pub closed : List (List NodeData) → List Item → List Item
closed [] tail = tail
closed (b ∷ bs) tail = closed bs (end_item ∷ (listed b ++ tail))

pub listed_said : (x : Nodes) → listed (said_nodes x) ≡ flattened x
listed_said data'.none = refl
listed_said (data'.first n x) = ap (λ (z : List Item). node_items n ++ z) (listed_said x)

closed_push : (bs : List (List NodeData)) (b : List NodeData) (tail : List Item) → closed (bs ++ b ∷ []) tail ≡ end_item ∷ (listed b ++ closed bs tail)
closed_push [] b tail = refl
closed_push (a ∷ bs) b tail = closed_push bs b (end_item ∷ (listed a ++ tail))

abbrev inside : Option Nodes → List Item
inside None = []
inside (Some x) = flattened x ++ end_item ∷ []

node_split : (n : NodeData) → node_items n ≡ head_items n ++ inside (said_children n)
node_split (data'.node ty name es data'.no_children) = refl
node_split (data'.node ty name es (data'.children x)) = refl

-- the items of the nodes at hand, and what follows them
abbrev pub items_left : List NodeData → List (List NodeData) → List Item
items_left rest above = listed rest ++ closed above []

-- the rows so far say some items, and all items are these and those that are left
pub record SoFar (rows : List KdlRow) (count : ℕ) (strings : List ℕ) (used : ℕ) (rest : List NodeData) (above : List (List NodeData)) (all : List Item) : Type 0 where
  pub items : List Item
  pub say : RowsSay rows count strings used items
  pub left : items ++ items_left rest above ≡ all

regroup_in : (head f b c : List Item) → head ++ (f ++ (end_item ∷ (b ++ c))) ≡ ((head ++ (f ++ end_item ∷ [])) ++ b) ++ c
regroup_in head f b c = simp append_assoc

regroup_on : (head b c : List Item) → head ++ (b ++ c) ≡ ((head ++ []) ++ b) ++ c
regroup_on head b c = simp (append_assoc, append-nil)

first_items : (n : NodeData) (o : Option Nodes) → said_children n ≡ o → node_items n ≡ head_items n ++ inside o
first_items n o e = node_split n ∙ ap (λ (p : Option Nodes). head_items n ++ inside p) e

-- the items that are left, before and after a step: into the block of a node, past a node without a block, out of a block
items_in : (n : NodeData) (after kids : List NodeData) (above : List (List NodeData)) (x : Nodes) → said_children n ≡ Some x → kids ≡ said_nodes x
    → head_items n ++ items_left kids (above ++ after ∷ []) ≡ items_left (n ∷ after) above
items_in n after kids above x has here =
    ap (λ (z : List Item). head_items n ++ z)
    (ap (λ (z : List Item). z ++ closed (above ++ after ∷ []) []) (ap listed here ∙ listed_said x) ∙ ap (λ (z : List Item). flattened x ++ z) (closed_push above after []))
    ∙ regroup_in (head_items n) (flattened x) (listed after) (closed above [])
    ∙ ap (λ (z : List Item). (z ++ listed after) ++ closed above []) (sym (first_items n (Some x) has))

items_on : (n : NodeData) (after : List NodeData) (above : List (List NodeData)) → said_children n ≡ None → head_items n ++ items_left after above ≡ items_left (n ∷ after) above
items_on n after above has =
    regroup_on (head_items n) (listed after) (closed above [])
    ∙ ap (λ (z : List Item). (z ++ listed after) ++ closed above []) (sym (first_items n None has))

items_out : (after : List NodeData) (above : List (List NodeData)) → end_item ∷ items_left after above ≡ items_left [] (above ++ after ∷ [])
items_out after above = sym (closed_push above after [])

-- so fewer are left
fewer : (i : Item) (is now all : List Item) → (i ∷ is) ++ now ≡ all → length now < length all
fewer i is now all e = omega (arith, length-append (i ∷ is) now, ap length e)

pub fewer_in : (n : NodeData) (after kids : List NodeData) (above : List (List NodeData)) (x : Nodes) → said_children n ≡ Some x → kids ≡ said_nodes x
    → length (items_left kids (above ++ after ∷ [])) < length (items_left (n ∷ after) above)
fewer_in n after kids above x has here = fewer (node_item n) (map entry_item (said_entries n)) _ _ (items_in n after kids above x has here)

pub fewer_on : (n : NodeData) (after : List NodeData) (above : List (List NodeData)) → said_children n ≡ None → length (items_left after above) < length (items_left (n ∷ after) above)
fewer_on n after above has = fewer (node_item n) (map entry_item (said_entries n)) _ _ (items_on n after above has)

pub fewer_out : (after : List NodeData) (above : List (List NodeData)) → length (items_left after above) < length (items_left [] (above ++ after ∷ []))
fewer_out after above = fewer end_item [] _ _ (items_out after above)

-- into the block of a node
pub step_in : (rows rows' : List KdlRow) (k k' : ℕ) (ss ss' : List ℕ) (u u' : ℕ) (n : NodeData) (after kids : List NodeData) (above : List (List NodeData)) (x : Nodes) (all : List Item)
    → SoFar rows k ss u (n ∷ after) above all → said_children n ≡ Some x → kids ≡ said_nodes x
    → ((items : List Item) → RowsSay rows k ss u items → RowsSay rows' k' ss' u' (items ++ head_items n)) → SoFar rows' k' ss' u' kids (above ++ after ∷ []) all
step_in rows rows' k k' ss ss' u u' n after kids above x all s has here f = record {
  items = s.items ++ head_items n;
  say = f s.items s.say;
  left = append_assoc s.items (head_items n) (items_left kids (above ++ after ∷ [])) ∙ ap (λ (z : List Item). s.items ++ z) (items_in n after kids above x has here) ∙ s.left;
}

-- past a node without a block
pub step_on : (rows rows' : List KdlRow) (k k' : ℕ) (ss ss' : List ℕ) (u u' : ℕ) (n : NodeData) (after : List NodeData) (above : List (List NodeData)) (all : List Item)
    → SoFar rows k ss u (n ∷ after) above all → said_children n ≡ None
    → ((items : List Item) → RowsSay rows k ss u items → RowsSay rows' k' ss' u' (items ++ head_items n)) → SoFar rows' k' ss' u' after above all
step_on rows rows' k k' ss ss' u u' n after above all s has f = record {
  items = s.items ++ head_items n;
  say = f s.items s.say;
  left = append_assoc s.items (head_items n) (items_left after above) ∙ ap (λ (z : List Item). s.items ++ z) (items_on n after above has) ∙ s.left;
}

-- out of a block
pub step_out : (rows rows' : List KdlRow) (k k' : ℕ) (ss : List ℕ) (u : ℕ) (after : List NodeData) (above : List (List NodeData)) (all : List Item)
    → SoFar rows k ss u [] (above ++ after ∷ []) all
    → ((items : List Item) → RowsSay rows k ss u items → RowsSay rows' k' ss u (items ++ end_item ∷ [])) → SoFar rows' k' ss u after above all
step_out rows rows' k k' ss u after above all s f = record {
  items = s.items ++ end_item ∷ [];
  say = f s.items s.say;
  left = append_assoc s.items (end_item ∷ []) (items_left after above) ∙ ap (λ (z : List Item). s.items ++ z) (items_out after above) ∙ s.left;
}

-- what the nodes on a stack say
abbrev pub stack : List (Bor (List KdlNode)) → List (List NodeData)
stack bs = map (λ b. map node_says b.now) bs

pub stack_push : (bs cs : List (Bor (List KdlNode))) (b : Bor (List KdlNode)) → cs ≡ bs ++ b ∷ [] → stack cs ≡ stack bs ++ map node_says b.now ∷ []
stack_push bs cs b e = ap stack e ∙ map-append (λ (x : Bor (List KdlNode)). map node_says x.now) bs (b ∷ [])

pub empty : {A : Type 0} (xs : List A) → length xs ≡ 0 → xs ≡ []
empty [] e = refl
empty (x ∷ xs) e = absurd (omega (arith, e))

pub start : (rows : List KdlRow) (k : ℕ) (ss : List ℕ) (u : ℕ) (rest : List NodeData) (above : List (List NodeData)) → k ≡ 0 → above ≡ [] → SoFar rows k ss u rest above (listed rest)
start rows k ss u rest above e a = record {
  items = [];
  say = subst (λ (n : ℕ). RowsSay rows n ss u []) (sym e) (none_said rows ss u);
  left = ap (λ (z : List (List NodeData)). listed rest ++ closed z []) a ∙ append-nil (listed rest);
}

-- the nodes of a document, and one node
pub of_document : (ns : List NodeData) (x : Nodes) → ns ≡ said_nodes x → listed ns ≡ flattened x
of_document ns x e = ap listed e ∙ listed_said x

pub of_node : (ns : List NodeData) (n : NodeData) → ns ≡ n ∷ [] → listed ns ≡ node_items n
of_node ns n e = ap listed e ∙ append-nil (node_items n)
