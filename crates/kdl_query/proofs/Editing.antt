-- Edits of the node at a path.
use Rattle.std.proofs.Common.{◌≡◌, ℕ, zero, suc, List, [], ◌∷◌, ◌++◌, Option, Some, None, MatchOption, ap, refl, sym, subst, ◌∙◌, map, option_map, slice_get, option_and_then, Vec, Global}
use Rattle.c_calls.specs.Changes.{AtNode, SameTree}
use Rattle.c_calls.specs.Changes as tree'
use Rattle.c_calls.specs.Internal.Opened.{IsOpened, plugged}
use Rattle.c_calls.specs.Paths.{block_nodes, nodes_at}
use Rattle.c_calls.specs.Paths as paths'
use Rattle.c_calls.specs.declared.opened.Opened.{Opened}
use Rattle.c_calls.proofs.PathSteps.{at_last}
use Rattle.kdl_entry.specs.Tree.{entry_data}
use Rattle.kdl_grammar.specs.Data as data'
use Rattle.kdl_grammar.specs.Data.{Node, Nodes}
use Rattle.kdl_grammar.specs.Print.{print_document}
use Rattle.kdl_grammar.specs.ReadsBack.{DocumentReads}
use Rattle.kdl_grammar.specs.Tree.{Document, document_data, node_data, nodes_data}
use Rattle.kdl_grammar.specs.Tree as grammar'
use Rattle.kdl.specs.Bytes.{IsExchanged}
use Rattle.kdl.specs.Change.{with_nodes}
use Rattle.kdl.specs.DocumentLookups.{nodes_of}
use Rattle.kdl.specs.Fields.{held_nodes}
use Rattle.kdl.specs.Iterators.{nodes_in}
use Rattle.kdl.specs.Said.{said_nodes}
use Rattle.kdl.specs.Tree.{document_of, document_prints, document_says, document_tree, node_says, node_tree}
use Rattle.kdl.specs.declared.document.KdlDocument.{KdlDocument, out-KdlDocument}
use Rattle.kdl.specs.declared.node.KdlNode.{KdlNode, out-KdlNode}
use Rattle.kdl.proofs.Trees.{document_tree_out, document_tree_roll}
use Rattle.kdl_query.specs.Edits.{IsEditedAt, changed_at, changed_below, changed_nth}
use Rattle.kdl_query.specs.Held.{held_at, held_below}
use Rattle.kdl_query.specs.Selects.{Path, node_at, node_below}
use Rattle.kdl_query.proofs.Holds.{held_says}
use Rattle.kdl_query.proofs.Lifting.{lift}

-- a changed tree says the changed data
nth_said : (i : ℕ) (f : grammar'.Node → grammar'.Node) (g : Node → Node) → ((n : grammar'.Node) → node_data (f n) ≡ g (node_data n)) → (ns : grammar'.Nodes)
    → nodes_data (tree'.changed_nth i f ns) ≡ changed_nth i g (nodes_data ns)
nth_said i f g e grammar'.none = refl
nth_said zero f g e (grammar'.first n ns) = ap (λ m. data'.first m (nodes_data ns)) (e n)
nth_said (suc i) f g e (grammar'.first n ns) = ap (data'.first (node_data n)) (nth_said i f g e ns)

below_said : (p : Path) (t : grammar'.Node) (n : grammar'.Node) → node_data (tree'.changed_below p (λ _. t) n) ≡ changed_below p (λ _. node_data t) (node_data n)
below_said [] t n = refl
below_said (i ∷ p) t (grammar'.node h grammar'.no_children) = refl
below_said (i ∷ p) t (grammar'.node h (grammar'.children (grammar'.document o s ns))) =
    ap (λ x. data'.node (option_map (λ k. k.value) h.ty) h.name.value (map entry_data h.entries) (data'.children x))
    (nth_said i (tree'.changed_below p (λ _. t)) (changed_below p (λ _. node_data t)) (below_said p t) ns)

tree_said : (p : Path) (t : grammar'.Node) (d : Document) → document_data (tree'.changed_at p (λ _. t) d) ≡ changed_at p (λ _. node_data t) (document_data d)
tree_said [] t (grammar'.document o s ns) = refl
tree_said (i ∷ p) t (grammar'.document o s ns) = nth_said i (tree'.changed_below p (λ _. t)) (changed_below p (λ _. node_data t)) (below_said p t) ns

-- two changes that agree at the node make the same
nth_agree : (i : ℕ) (f g : Node → Node) (x : Nodes) → ((n : Node) → slice_get (said_nodes x) i ≡ Some n → f n ≡ g n) → changed_nth i f x ≡ changed_nth i g x
nth_agree i f g data'.none e = refl
nth_agree zero f g (data'.first n x) e = ap (λ m. data'.first m x) (e n refl)
nth_agree (suc i) f g (data'.first n x) e = ap (data'.first n) (nth_agree i f g x e)

step_at : (p : Path) (m n : Node) (o : Option Node) → option_and_then (node_below p) o ≡ Some m → o ≡ Some n → node_below p n ≡ Some m
step_at p m n o at is = sym (ap (option_and_then (node_below p)) is) ∙ at

below_agree : (p : Path) (f g : Node → Node) (m n : Node) → node_below p n ≡ Some m → f m ≡ g m → changed_below p f n ≡ changed_below p g n
below_agree [] f g m n at e = let is : n ≡ m = cc in ap f is ∙ e ∙ ap g (sym is)
below_agree (i ∷ p) f g m (data'.node ty name es data'.no_children) at e = refl
below_agree (i ∷ p) f g m (data'.node ty name es (data'.children x)) at e =
    ap (λ y. data'.node ty name es (data'.children y))
    (nth_agree i (changed_below p f) (changed_below p g) x (λ n is. below_agree p f g m n (step_at p m n (slice_get (said_nodes x) i) at is) e))

pub data_agree : (p : Path) (f g : Node → Node) (m : Node) (x : Nodes) → node_at p x ≡ Some m → f m ≡ g m → changed_at p f x ≡ changed_at p g x
data_agree [] f g m x at e = refl
data_agree (i ∷ p) f g m x at e = nth_agree i (changed_below p f) (changed_below p g) x (λ n is. below_agree p f g m n (step_at p m n (slice_get (said_nodes x) i) at is) e)

-- a path leads to the same node, step by step or block by block
one_more : (o : Option KdlNode) → option_and_then (held_below []) o ≡ o
one_more None = refl
one_more (Some n) = refl

in_block : (j : ℕ) (p : Path) (b : Option KdlDocument) → ((ns : List KdlNode) → paths'.node_at (j ∷ p) ns ≡ option_and_then (held_below p) (slice_get ns j))
    → option_and_then (paths'.node_at (j ∷ p)) (option_map nodes_of b) ≡ option_and_then (held_below p) (slice_get (nodes_in b) j)
in_block j p None f = refl
in_block j p (Some d) f = f (nodes_of d)

in_node : (j : ℕ) (p : Path) (o : Option KdlNode) → ((ns : List KdlNode) → paths'.node_at (j ∷ p) ns ≡ option_and_then (held_below p) (slice_get ns j))
    → option_and_then (paths'.node_at (j ∷ p)) (option_and_then block_nodes o) ≡ option_and_then (held_below (j ∷ p)) o
in_node j p None f = refl
in_node j p (Some n) f = in_block j p (out-KdlNode n).children f

nodes_same : (i : ℕ) (p : Path) (ns : List KdlNode) → paths'.node_at (i ∷ p) ns ≡ option_and_then (held_below p) (slice_get ns i)
nodes_same i [] ns = sym (one_more (slice_get ns i))
nodes_same i (j ∷ p) ns = in_node j p (slice_get ns i) (nodes_same j p)

pub path_same : (p : Path) (d : KdlDocument) → paths'.node_at p (nodes_of d) ≡ held_at p d
path_same [] d = refl
path_same (i ∷ p) d = nodes_same i p (nodes_of d)

-- an edit in the block at the end of a path
in_whole : (p above : Path) (i : ℕ) (R : KdlNode → KdlNode → Type 0) (d e : KdlDocument) (o : Opened) (b : KdlDocument) → p ≡ above ++ i ∷ [] → IsOpened above d o
    → AtNode (i ∷ []) R o.block b → document_tree e ≡ plugged o.above.items (document_tree b) → AtNode p R d e
in_whole p above i R d e o b whole h done closed = record {
  old = done.old;
  new = done.new;
  there = sym (at_last p above i (nodes_of d) (Some (nodes_of o.block)) (Some done.old) whole (sym h.nodes) done.there);
  related = done.related;
  rest = closed ∙ ap (plugged o.above.items) done.rest ∙ h.changed i (node_tree done.new) ∙ ap (λ q. tree'.changed_at q (λ _. node_tree done.new) (document_tree d)) (sym whole);
}

edited : (p : Path) (R : KdlNode → KdlNode → Type 0) (d e : KdlDocument) → AtNode p R d e → IsEditedAt p R d e
edited p R d e h =
    let was = sym (held_says p d) ∙ ap (option_map node_says) (sym (path_same p d) ∙ h.there) in
    let l = lift p d h.old h.new h.there in
    let same : document_tree l.whole ≡ document_tree e = l.tree ∙ sym h.rest in
    record {
      node = h;
      was = was;
      says = λ f is.
          ap document_data h.rest ∙ tree_said p (node_tree h.new) (document_tree d)
          ∙ data_agree p (λ _. node_says h.new) f (node_says h.old) (document_says d) was (sym is);
      reads = λ r x. subst DocumentReads same (l.document_reads r x);
      bytes = λ q r x. subst (λ (t : Document). IsExchanged q r (document_prints d) (print_document t 0)) same ((l.prints q r x).prints 0);
    }

none_in_whole : (p above : Path) (i : ℕ) (d w : KdlDocument) (o : Option (List KdlNode)) → p ≡ above ++ i ∷ [] → w ≡ d → nodes_at above (nodes_of w) ≡ o
    → option_and_then (λ ns. slice_get ns i) o ≡ None → node_at p (document_says d) ≡ None
none_in_whole p above i d w o whole same there none =
    sym (held_says p d) ∙ ap (option_map node_says) (sym (path_same p d) ∙ sym (at_last p above i (nodes_of d) o None whole (ap (λ v. nodes_at above (nodes_of v)) (sym same) ∙ there) none))

pub edit_absent : (p above : Path) (i : ℕ) (d e w : KdlDocument) → p ≡ above ++ i ∷ [] → w ≡ d → nodes_at above (nodes_of w) ≡ None → document_tree e ≡ document_tree w
    → (node_at p (document_says d) ≡ None) × SameTree d e
edit_absent p above i d e w whole same none back = (none_in_whole p above i d w None whole same none refl, back ∙ ap document_tree same)

pub edit_outcome : {A : Type 0} (R : A → KdlNode → KdlNode → Type 0) (p above : Path) (i : ℕ) (d e w : KdlDocument) (o : Opened) (b : KdlDocument) → p ≡ above ++ i ∷ [] → w ≡ d → IsOpened above w o
    → document_tree e ≡ plugged o.above.items (document_tree b)
    → (r : Option A) → MatchOption r ((slice_get (nodes_of o.block) i ≡ None) × SameTree o.block b) (λ a. AtNode (i ∷ []) (R a) o.block b)
    → MatchOption r ((node_at p (document_says d) ≡ None) × SameTree d e) (λ a. IsEditedAt p (R a) d e)
edit_outcome R p above i d e w o b whole same h closed None m = (
  none_in_whole p above i d w (Some (nodes_of o.block)) whole same (sym h.nodes) m.0,
  closed ∙ ap (plugged o.above.items) m.1 ∙ h.whole ∙ ap document_tree same,
)
edit_outcome R p above i d e w o b whole same h closed (Some a) m =
    edited p (R a) d e (subst (λ v. AtNode p (R a) v e) same (in_whole p above i (R a) w e o b whole h m closed))

-- a document with the nodes that it has
pub same_nodes : (d : KdlDocument) (v : Vec KdlNode Global) → v ≡ held_nodes d → document_tree (with_nodes d v) ≡ document_tree d
same_nodes d v e =
    document_tree_roll (record (out-KdlDocument d) { nodes = v }) ∙ ap (λ (w : Vec KdlNode Global). document_of d (map node_tree w.items)) e ∙ sym (document_tree_out d)
