-- The data after an edit at the end of steps, and at a path of indices.
use Rattle.std.proofs.Common.{◌≡◌, ℕ, zero, suc, List, [], ◌∷◌, Option, None, Some, option_map, slice_get, refl, ap, ◌∙◌, sym, subst}
use Rattle.std.proofs.lemmas.Option.{none-some, slice_get-map}
use Rattle.kdl_grammar.specs.Data as data'
use Rattle.kdl.specs.DocumentLookups.{nodes_of}
use Rattle.kdl.specs.Fields.{block_of}
use Rattle.kdl.specs.Iterators.{nodes_in}
use Rattle.kdl.specs.Said.{said_children, said_nodes}
use Rattle.kdl.specs.Tree.{document_says, node_says}
use Rattle.kdl.specs.declared.document.KdlDocument.{KdlDocument}
use Rattle.kdl.specs.declared.node.KdlNode.{KdlNode}
use Rattle.kdl.proofs.Finding.SaidLookups.{children_said, nodes_said}
use Rattle.kdl_query.specs.Selects.{Path}
use Rattle.kdl_path.specs.Internal.OnEach.{Edit, edited}
use Rattle.kdl_path.specs.Edits.{changed_at, changed_below, with_block, with_nth, with_there}
use Rattle.kdl_path.specs.Internal.Located.{Leads}
use Rattle.kdl_path.specs.Paths.{step_place}
use Rattle.kdl_path.specs.declared.path.Step.{Step}
use Rattle.kdl_path.proofs.Places.{step_said}
use Rattle.kdl_path.proofs.Removals.{nth_same, there_same}

-- changes that agree where they are made
pub nth_there : (i : ℕ) (f g : data'.Node → data'.Node) (x : data'.Nodes) (n : data'.Node) → slice_get (said_nodes x) i ≡ Some n → f n ≡ g n → with_nth i f x ≡ with_nth i g x
nth_there i f g data'.none n h e = refl
nth_there zero f g (data'.first m x) n h e = let same : m ≡ n = cc in ap (λ z. data'.first z x) (ap f same ∙ e ∙ sym (ap g same))
nth_there (suc i) f g (data'.first m x) n h e = ap (data'.first m) (nth_there i f g x n h e)

block_there : (f g : data'.Nodes → data'.Nodes) (n : data'.Node) → ((x : data'.Nodes) → said_children n ≡ Some x → f x ≡ g x) → with_block f n ≡ with_block g n
block_there f g (data'.node ty name es data'.no_children) h = refl
block_there f g (data'.node ty name es (data'.children x)) h = ap (λ y. data'.node ty name es (data'.children y)) (h x refl)

-- an edit by steps, and the same by a path
pub record BySteps (f : List Step → data'.Nodes → data'.Nodes) (g : Edit) : Type 0 where
  pub last : (s : Step) (i : ℕ) (x : data'.Nodes) → step_place s (said_nodes x) ≡ Some i → f (s ∷ []) x ≡ g i x
  pub more : (s t : Step) (ss : List Step) (x : data'.Nodes) → f (s ∷ t ∷ ss) x ≡ with_there (step_place s (said_nodes x)) (with_block (f (t ∷ ss))) x

along_from : (f : List Step → data'.Nodes → data'.Nodes) (g : Edit) → BySteps f g → (s : Step) (ss : List Step) (i : ℕ) (p : Path) (d : KdlDocument) (o : Option KdlNode) (n : KdlNode) → Leads (s ∷ ss) (i ∷ p) (nodes_of d) o n
    → f (s ∷ ss) (document_says d) ≡ edited g (i ∷ p) (document_says d)
along_from f g b s [] i [] d o n h = b.last s i (document_says d) (step_said s d i h.1)
along_from f g b s [] i (j ∷ p) d o n h = absurd h.3
along_from f g b s (t ∷ ss) i [] d o n h = absurd h.3
along_from f g b s (t ∷ ss) i (j ∷ p) d o n h =
    let x = document_says d in
    let k = h.0 in
    let at : slice_get (said_nodes x) i ≡ Some (node_says k) = sym (ap (λ l. slice_get l i) (nodes_said d)) ∙ slice_get-map node_says (nodes_of d) i ∙ ap (option_map node_says) h.2 in
    b.more s t ss x
    ∙ ap (λ q. with_there q (with_block (f (t ∷ ss))) x) (step_said s d i h.1)
    ∙ nth_there i (with_block (f (t ∷ ss))) (with_block (edited g (j ∷ p))) x (node_says k) at (block_there (f (t ∷ ss)) (edited g (j ∷ p)) (node_says k) (λ y e. inside y (block_of k) (λ c r. along_from f g b t ss j p c (Some k) n r) h.3 (children_said k ∙ e)))
  where
    inside : (y : data'.Nodes) (c : Option KdlDocument) → ((c : KdlDocument) → Leads (t ∷ ss) (j ∷ p) (nodes_of c) (Some h.0) n → f (t ∷ ss) (document_says c) ≡ edited g (j ∷ p) (document_says c))
        → Leads (t ∷ ss) (j ∷ p) (nodes_in c) (Some h.0) n → option_map document_says c ≡ Some y → f (t ∷ ss) y ≡ edited g (j ∷ p) y
    inside y None more r e = absurd (none-some y e)
    inside y (Some c) more r e = let same : document_says c ≡ y = cc in subst (λ z. f (t ∷ ss) z ≡ edited g (j ∷ p) z) same (more c r)

along : (f : List Step → data'.Nodes → data'.Nodes) (g : Edit) → BySteps f g → (ss : List Step) (p : Path) (d : KdlDocument) (n : KdlNode) → Leads ss p (nodes_of d) None n → f ss (document_says d) ≡ edited g p (document_says d)
along f g b [] [] d n h = absurd (none-some n h)
along f g b [] (i ∷ p) d n h = absurd h
along f g b (s ∷ ss) [] d n h = absurd h
along f g b (s ∷ ss) (i ∷ p) d n h = along_from f g b s ss i p d None n h

-- the node at the end of the steps changed
pub changed_along : (f : data'.Node → data'.Node) (g : Edit) → ((i : ℕ) (x : data'.Nodes) → g i x ≡ with_nth i f x) → (ss : List Step) (p : Path) (d : KdlDocument) (n : KdlNode) → Leads ss p (nodes_of d) None n
    → changed_at ss f (document_says d) ≡ edited g p (document_says d)
changed_along f g same = along (λ ss x. changed_at ss f x) g (record {
  last = λ s i x h. ap (λ o. with_there o (changed_below [] f) x) h ∙ nth_same i (changed_below [] f) f (λ n. refl) x ∙ sym (same i x);
  more = λ s t ss x. there_same (step_place s (said_nodes x)) (changed_below (t ∷ ss) f) (with_block (λ y. changed_at (t ∷ ss) f y)) (λ n. refl) x;
})
