-- The nodes of a document that reads back have formats.
use Rattle.kdl_laws.proofs.Common.{◌≡◌, ℕ, Bool, true, false, cond, List, [], ◌∷◌, Option, Some, None, option_map, refl, ap, ◌∙◌, sym, subst, none-some, All, find, Rests, NodeReads, reads, NodeFormat, Node, node_format_tree, KdlNodeFormat, is_node_named, node_named, nodes_of, node_format_of, DocumentReadsBack, NodeReadsBack, KdlNode, KdlDocument, nodes_read_back, node_tree_out}
use Rattle.std.proofs.Common.{IsSome}
use Rattle.std.proofs.lemmas.List.Elements.{All-head, All-tail}
use Rattle.kdl.proofs.Clearing.{tree_format}

-- what holds of each holds of the one that is found
pub find_all : {A : Type 0} (P : A → Type 0) (p : A → Bool) (xs : List A) (x : A) → All P xs → find p xs ≡ Some x → P x
find_all P p [] x a h = absurd (none-some _ h)
find_all {A = A} P p (y ∷ ys) x a h = go (p y) h (find_all P p ys x (All-tail P y ys a))
  where
    go : (b : Bool) → cond b (Some y) (find p ys) ≡ Some x → (find p ys ≡ Some x → P x) → P x
    go true k later = let same : y ≡ x = cc in subst P same (All-head P y ys a)
    go false k later = later k

reads_format : {P : Rests} {t : Node} → NodeReads P t → (f : NodeFormat) × (tree_format t ≡ Some f)
reads_format (reads {f = f} e a b c) = (f, e)

some_format : (o : Option KdlNodeFormat) (f : NodeFormat) → option_map node_format_tree o ≡ Some f → IsSome o
some_format None f e = absurd (none-some _ e)
some_format (Some x) f e = refl

node_formed : (n : KdlNode) → NodeReadsBack n → IsSome (node_format_of n)
node_formed n r = let (f, e) = reads_format r in some_format (node_format_of n) f (ap tree_format (sym (node_tree_out n)) ∙ e)

pub named_formed : (s : List ℕ) (d : KdlDocument) (n : KdlNode) → DocumentReadsBack d → Some n ≡ node_named s d → IsSome (node_format_of n)
named_formed s d n r h = node_formed n (find_all NodeReadsBack (is_node_named s) (nodes_of d) n (nodes_read_back d r) (sym h))
