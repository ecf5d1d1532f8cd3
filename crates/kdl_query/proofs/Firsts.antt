-- What a selection says of the first path.
use Rattle.std.proofs.Common.{◌≡◌, ℕ, zero, suc, ◌<◌, List, [], ◌∷◌, length, get_or, Option, Some, None, IsSome, ◌⊎◌, inl, inr, refl, sym, subst, arith}
use Rattle.std.specs.List.{Contains}
use Rattle.kdl_grammar.specs.Data.{Nodes}
use Rattle.kdl_query.specs.Data.{Query}
use Rattle.kdl_query.specs.Selects.{IsBefore, IsFirstPath, IsSelected, IsSelection, Path, node_at}
use Rattle.kdl_query.proofs.Choosing.{selected_there}

later : (x : Nodes) (q : Query) (p r : Path) (ps : List Path) (k : ℕ) → IsSelection x q (p ∷ ps) → k < length (p ∷ ps) → get_or (p ∷ ps) k r ≡ r → (r ≡ p) ⊎ IsBefore p r
later x q p r ps zero h l e = inl (sym e)
later x q p r ps (suc k) h l e = inr (subst (λ t. IsBefore p t) e (h.ordered 0 (suc k) r (omega arith) l))

pub first_selected : (x : Nodes) (q : Query) (p : Path) (ps : List Path) → IsSelection x q (p ∷ ps) → IsFirstPath x q p
first_selected x q p ps h = (
  (h.each p).0 (0, omega arith, refl),
  λ r s. let c : Contains (p ∷ ps) r = (h.each r).1 s in later x q p r ps c.0 h c.1 c.2,
)

no_place : (p : Path) → Contains [] p → ⊥
no_place p c = let l : c.0 < 0 = c.1 in absurd (omega (arith, l))

pub none_selected : (x : Nodes) (q : Query) (p : Path) → IsSelection x q [] → IsSelected x q p → ⊥
none_selected x q p h s = no_place p ((h.each p).1 s)

some_there : {A : Type 0} (o : Option A) (a : A) → o ≡ Some a → IsSome o
some_there None a e = absurd (cc)
some_there (Some b) a e = refl

pub node_selected : (x : Nodes) (q : Query) (p : Path) → IsSelected x q p → IsSome (node_at p x)
node_selected x q p h = let n = selected_there x q p h in some_there (node_at p x) n.0 n.1
