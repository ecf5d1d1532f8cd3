-- What a document says once the first node that a query selects has another name.
use Rattle.std.proofs.Common.{◌≡◌, ℕ, List, [], ◌∷◌, Option, Some, None, IsSome, MatchOption, Vec, ap, map, slice_get, subst, sym, ◌∙◌}
use Rattle.kdl.specs.Words.{Nodes, document_says, identifier_tree, node_data, node_says, with_name}
use Rattle.kdl.specs.declared.KdlIdentifier.{KdlIdentifier}
use Rattle.kdl.specs.declared.document.KdlDocument.{KdlDocument}
use Rattle.kdl.specs.declared.node.KdlNode.{KdlNode, out-KdlNode}
use Rattle.kdl.proofs.Trees.{node_tree_out, node_tree_roll}
use Rattle.kdl_query.specs.Data.{Query}
use Rattle.kdl_query.specs.Edits.{IsEditedAt, SameTree, changed_at}
use Rattle.kdl_query.specs.Selects.{IsFirstPath, IsSelection, Path, node_at}
use Rattle.use_theorems.specs.Edits.{renamed}

named : (n : KdlNode) (w : KdlIdentifier) → node_says (with_name n w) ≡ renamed (identifier_tree w).value (node_says n)
named n w = ap node_data (node_tree_roll (record (out-KdlNode n) { name = w })) ∙ sym (ap (λ t. renamed (identifier_tree w).value (node_data t)) (node_tree_out n))

not_there : {A : Type 0} (o : Option A) → o ≡ None → IsSome o → ⊥
not_there None e h = absurd (cc)
not_there (Some a) e h = absurd (cc)

pub renamed_at : {A : Type 0} (R : A → KdlNode → KdlNode → Type 0) (p : Path) (w : KdlIdentifier) (d e : KdlDocument) (r : Option A) → ((a : A) (n m : KdlNode) → R a n m → m ≡ with_name n w)
    → IsSome (node_at p (document_says d)) → MatchOption r ((node_at p (document_says d) ≡ None) × SameTree d e) (λ a. IsEditedAt p (R a) d e)
    → document_says e ≡ changed_at p (renamed (identifier_tree w).value) (document_says d)
renamed_at R p w d e None f there h = absurd (not_there (node_at p (document_says d)) h.0 there)
renamed_at R p w d e (Some a) f there h =
    h.says (renamed (identifier_tree w).value) (sym (ap node_says (f a h.node.old h.node.new h.node.related) ∙ named h.node.old w))

-- the first path of a list in memory
abbrev paths : {Z : Type 0} → List (Vec ℕ Z) → List Path
paths vs = map (λ v. v.items) vs

pub begins : {Z : Type 0} (x : Nodes) (q : Query) (vs : List (Vec ℕ Z)) (v : Vec ℕ Z) → ((p : Path) (ps : List Path) → IsSelection x q (p ∷ ps) → IsFirstPath x q p)
    → IsSelection x q (map (λ u. u.items) vs) → Some v ≡ slice_get vs 0 → IsFirstPath x q v.items
begins x q [] v f h e = absurd (cc)
begins {Z} x q (u ∷ vs) v f h e = let is : u ≡ v = cc in subst (λ (w : Vec ℕ Z). IsFirstPath x q w.items) is (f u.items (paths vs) h)

pub is_empty : {Z : Type 0} (x : Nodes) (q : Query) (vs : List (Vec ℕ Z)) → None ≡ slice_get vs 0 → IsSelection x q (map (λ u. u.items) vs) → IsSelection x q []
is_empty x q [] e h = h
is_empty x q (u ∷ vs) e h = absurd (cc)
