use Rattle.std.proofs.Common.{◌≡◌, ℕ, List, Bool, true, Option, Some, None, is_none, option_map, slice_get, ap, sym, subst, ◌∙◌, refl}
use Rattle.std.proofs.lemmas.Option.{none-some}
use Rattle.kdl.specs.Words.{Entry, IsArgumentSet, Value, entries_of, entry_name_of, entry_tree, identifier_tree, is_argument, there}
use Rattle.kdl.specs.declared.node.KdlNode.{KdlNode}
use Rattle.kdl.proofs.Finding.ListLookups.{nth_holds}
use Rattle.use_theorems.proofs.reads_back.replace_first.Goals as goal

there_holds : {A : Type 0} (p : A → Bool) (xs : List A) (o : Option ℕ) (x : A) → ((i : ℕ) → o ≡ Some i → (y : A) × (slice_get xs i ≡ Some y) × (p y ≡ true)) → Some x ≡ there o xs → p x ≡ true
there_holds p xs None x f h = absurd (none-some _ (sym h))
there_holds p xs (Some i) x f h =
    let (y, is, holds) = f i refl in
    let e : x ≡ y = cc in
    ap p e ∙ holds

no_name : {A B : Type 0} (f : A → B) (o : Option A) → is_none o ≡ true → option_map f o ≡ None
no_name f None h = refl
no_name f (Some x) h = absurd (cc)

other_value : (i : ℕ) (u v : Value) (n m : KdlNode) → u ≡ v → IsArgumentSet i u n m → IsArgumentSet i v n m
other_value i u v n m h x = subst (λ (w : Value). IsArgumentSet i w n m) h x

pub returns-clause-sets : goal.returns-clause-sets
returns-clause-sets c has =
    let n = c.args.node.now in
    let e = c.in-Some.entry.now in
    let argument : is_argument e ≡ true = there_holds is_argument (entries_of n) _ e (nth_holds is_argument (entries_of n) 0) c.in-Some.ensures.value in
    let unnamed : (entry_tree e).name ≡ None = no_name identifier_tree (entry_name_of e) argument in
    other_value 0 _ _ n _ (ap (λ (x : Entry). x.value) c.new.ensures.tree) (c.in-Some.ensures.sets_at c.new.result (ap (λ (x : Entry). x.name) c.new.ensures.tree ∙ sym unnamed))
