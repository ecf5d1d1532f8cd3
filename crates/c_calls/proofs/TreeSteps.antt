-- Trees with one node changed.
use Rattle.std.proofs.Common.{◌≡◌, ℕ, zero, suc, List, [], ◌∷◌, ◌++◌, None, Some, ap, ◌∙◌, sym, refl, set, slice_get}
use Rattle.kdl_grammar.specs.Tree.{Nodes, Node, Document, Children, children, document, first, node, none, listed_nodes}
use Rattle.c_calls.specs.Changes.{changed_nth, changed_below, changed_at}
use Rattle.c_calls.specs.Internal.Opened.{with_kids, with_kids_at}

kids_twice : (k l : Children) (n : Node) → with_kids k (with_kids l n) ≡ with_kids k n
kids_twice k l (node h m) = refl

nth_twice : (i : ℕ) (k l : Children) (ns : Nodes) → changed_nth i (with_kids k) (changed_nth i (with_kids l) ns) ≡ changed_nth i (with_kids k) ns
nth_twice i k l none = refl
nth_twice zero k l (first n ns) = ap (λ m. first m ns) (kids_twice k l n)
nth_twice (suc i) k l (first n ns) = ap (first n) (nth_twice i k l ns)

-- the last children that are put in count
pub at_twice : (i : ℕ) (k l : Children) (d : Document) → with_kids_at i k (with_kids_at i l d) ≡ with_kids_at i k d
at_twice i k l (document o s ns) = ap (document o s) (nth_twice i k l ns)

-- two changes that agree at the node make the same
pub nth_agree : (i : ℕ) (f g : Node → Node) (ms : List Node) (x : Node) → slice_get ms i ≡ Some x → f x ≡ g x → changed_nth i f (listed_nodes ms) ≡ changed_nth i g (listed_nodes ms)
nth_agree i f g [] x at e = refl
nth_agree zero f g (m ∷ ms) x at e =
    let same : m ≡ x = cc in
    ap (λ n. first n (listed_nodes ms)) (ap f same ∙ e ∙ ap g (sym same))
nth_agree (suc i) f g (m ∷ ms) x at e = ap (first m) (nth_agree i f g ms x at e)

pub nth_same : (i : ℕ) (ns : Nodes) → changed_nth i (λ n. n) ns ≡ ns
nth_same i none = refl
nth_same zero (first n ns) = refl
nth_same (suc i) (first n ns) = ap (first n) (nth_same i ns)

pub nth_past : (i : ℕ) (f : Node → Node) (ms : List Node) → slice_get ms i ≡ None → changed_nth i f (listed_nodes ms) ≡ listed_nodes ms
nth_past i f [] at = refl
nth_past zero f (m ∷ ms) at = absurd (cc)
nth_past (suc i) f (m ∷ ms) at = ap (first m) (nth_past i f ms at)

pub nth_set : (i : ℕ) (ms : List Node) (x : Node) → listed_nodes (set ms i x) ≡ changed_nth i (λ _. x) (listed_nodes ms)
nth_set i [] x = refl
nth_set zero (m ∷ ms) x = refl
nth_set (suc i) (m ∷ ms) x = ap (first m) (nth_set i ms x)

-- a path that goes on below a node
pub below_goes : (p : List ℕ) (i : ℕ) (f : Node → Node) (n : Node) (d : Document) → with_kids (children d) n ≡ n
    → changed_below (p ++ i ∷ []) f n ≡ with_kids (children (changed_at (p ++ i ∷ []) f d)) n
below_goes p i f n d e = ap (changed_below (p ++ i ∷ []) f) (sym e) ∙ at p n d
  where
    at : (q : List ℕ) (m : Node) (b : Document) → changed_below (q ++ i ∷ []) f (with_kids (children b) m) ≡ with_kids (children (changed_at (q ++ i ∷ []) f b)) m
    at [] (node h k) (document o s ns) = refl
    at (j ∷ q) (node h k) (document o s ns) = refl

pub nth_ext : (i : ℕ) (f g : Node → Node) (ns : Nodes) → ((n : Node) → f n ≡ g n) → changed_nth i f ns ≡ changed_nth i g ns
nth_ext i f g none e = refl
nth_ext zero f g (first n ns) e = ap (λ m. first m ns) (e n)
nth_ext (suc i) f g (first n ns) e = ap (first n) (nth_ext i f g ns e)
