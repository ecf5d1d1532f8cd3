-- What an edit at a path leaves at the paths before it.
use Rattle.std.proofs.Common.{◌≡◌, inl, inr, ℕ, zero, suc, ◌<◌, List, [], ◌∷◌, Option, None, Some, option_and_then, option_map, slice_get, refl, ap, ◌∙◌, sym, arith}
use Rattle.std.specs.List.{AllByRecursion}
use Rattle.kdl_entry.specs.Data.{Entry}
use Rattle.kdl_grammar.specs.Data as data'
use Rattle.kdl.specs.Nodes.{said_without}
use Rattle.kdl.specs.Said.{said_entries, said_nodes}
use Rattle.kdl_query.specs.Selects.{IsBefore, Path, node_at, node_below}
use Rattle.kdl_path.specs.Internal.OnEach.{Edit, edited, edited_each}
use Rattle.kdl_path.specs.Edits.{with_block, with_nth}

-- an edit that leaves the nodes before its place
abbrev pub KeepsBefore : Edit → Type 0
KeepsBefore f = (i j : ℕ) (x : data'.Nodes) → j < i → slice_get (said_nodes (f i x)) j ≡ slice_get (said_nodes x) j

pub nth_before : (g : data'.Node → data'.Node) (i j : ℕ) (x : data'.Nodes) → j < i → slice_get (said_nodes (with_nth i g x)) j ≡ slice_get (said_nodes x) j
nth_before g i j data'.none h = refl
nth_before g zero j (data'.first n x) h = absurd (omega (arith, h))
nth_before g (suc i) zero (data'.first n x) h = refl
nth_before g (suc i) (suc j) (data'.first n x) h = nth_before g i j x (omega (arith, h))

pub without_before : (i j : ℕ) (x : data'.Nodes) → j < i → slice_get (said_nodes (said_without i x)) j ≡ slice_get (said_nodes x) j
without_before i j data'.none h = refl
without_before zero j (data'.first n x) h = absurd (omega (arith, h))
without_before (suc i) zero (data'.first n x) h = refl
without_before (suc i) (suc j) (data'.first n x) h = without_before i j x (omega (arith, h))

nth_at : (g : data'.Node → data'.Node) (i : ℕ) (x : data'.Nodes) → slice_get (said_nodes (with_nth i g x)) i ≡ option_map g (slice_get (said_nodes x) i)
nth_at g i data'.none = refl
nth_at g zero (data'.first n x) = refl
nth_at g (suc i) (data'.first n x) = nth_at g i x

-- the entries of the node at a path
abbrev pub entries_at : Path → data'.Nodes → Option (List Entry)
entries_at p x = option_map said_entries (node_at p x)

abbrev entries_below : Path → Option data'.Node → Option (List Entry)
entries_below p o = option_map said_entries (option_and_then (node_below p) o)

in_block : (p q : Path) (h : data'.Nodes → data'.Nodes) → ((x : data'.Nodes) → entries_at p (h x) ≡ entries_at p x) → (o : Option data'.Node) → entries_below p (option_map (with_block h) o) ≡ entries_below p o
in_block p q h f None = refl
in_block [] q h f (Some (data'.node ty name es data'.no_children)) = refl
in_block [] q h f (Some (data'.node ty name es (data'.children x))) = refl
in_block (i ∷ p) q h f (Some (data'.node ty name es data'.no_children)) = refl
in_block (i ∷ p) q h f (Some (data'.node ty name es (data'.children x))) = f x

pub kept_before : (f : Edit) → KeepsBefore f → (p q : Path) (x : data'.Nodes) → IsBefore p q → entries_at p (edited f q x) ≡ entries_at p x
kept_before f k [] q x b = refl
kept_before f k (i ∷ p) [] x b = absurd b
kept_before f k (i ∷ p) (j ∷ []) x (inl b) = ap (entries_below p) (k j i x b)
kept_before f k (i ∷ p) (j ∷ []) x (inr b) = absurd b.1
kept_before f k (i ∷ p) (j ∷ m ∷ q) x (inl b) = ap (entries_below p) (nth_before (with_block (edited f (m ∷ q))) j i x b)
kept_before f k (i ∷ p) (j ∷ m ∷ q) x (inr b) =
    let g = with_block (edited f (m ∷ q)) in
    ap (λ n. entries_below p (slice_get (said_nodes (with_nth j g x)) n)) b.0
    ∙ ap (entries_below p) (nth_at g j x)
    ∙ in_block p q (edited f (m ∷ q)) (λ y. kept_before f k p (m ∷ q) y b.1) (slice_get (said_nodes x) j)
    ∙ sym (ap (λ n. entries_below p (slice_get (said_nodes x) n)) b.0)

pub kept_before_each : (f : Edit) → KeepsBefore f → (p : Path) (qs : List Path) (x : data'.Nodes) → AllByRecursion (IsBefore p) qs → entries_at p (edited_each f qs x) ≡ entries_at p x
kept_before_each f k p [] x b = refl
kept_before_each f k p (q ∷ qs) x b = kept_before f k p q (edited_each f qs x) b.0 ∙ kept_before_each f k p qs x b.1
