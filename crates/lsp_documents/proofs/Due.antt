-- Documents whose faults are to be published.
use Rattle.std.proofs.Common.{arith, ◌≡◌, ◌++◌, ◌∷◌, ◌<◌, ◌∙◌, [], ℕ, List, String, Global, Contains, Option, None, Some, IsNone, IsSome, Result, Ok, Err, OnOk, ap, get_or, length, string_bytes, subst, sym}
use Rattle.std.proofs.lemmas.List.Elements.{Contains-get_or, Contains-push}
use Rattle.lsp_documents.specs.Outcomes.{IsDue}
use Rattle.lsp_documents.specs.declared.state.State.{State}

-- a document that is found among those that are due
pub due_found : (s : State) (uri bytes : List ℕ) (items : List (String Global)) (i : ℕ) (d : String Global) → items ≡ s.due.items → i < length items → d ≡ get_or items i d → bytes ≡ string_bytes d → bytes ≡ uri → IsDue s uri
unfolding IsDue
due_found s uri bytes items i d all inside at is same =
    let has : Contains items d = subst (λ x. Contains items x) (sym at) (Contains-get_or items i d inside) in
    (d, subst (λ l. Contains l d) all has, sym is ∙ same)

-- one that is appended
pub due_pushed : (s : State) (uri : List ℕ) (old : List (String Global)) (d : String Global) → s.due.items ≡ old ++ d ∷ [] → string_bytes d ≡ uri → IsDue s uri
unfolding IsDue
due_pushed s uri old d is same = (d, subst (λ l. Contains l d) (sym is) (Contains-push old d), same)

-- the same documents are due
pub due_kept : (s t : State) (uri : List ℕ) → t.due ≡ s.due → IsDue s uri → IsDue t uri
unfolding IsDue
due_kept s t uri same (u, has, is) = (u, subst (λ l. Contains l u) (sym (ap (λ v. v.items) same)) has, is)

-- what holds, also if a call succeeds
pub on_ok : {T E P : Type 0} (r : Result T E) → P → OnOk r P
on_ok (Ok x) p = p
on_ok (Err e) p = tt

-- a document is not open and closed
pub none_open : {A : Type 0} (o : Option A) → IsNone o → IsSome o → ⊥
none_open None none some = absurd cc
none_open (Some x) none some = absurd cc

-- where none is due, no document is
pub none_due : (s : State) (uri : List ℕ) → s.due.items ≡ [] → IsDue s uri → ⊥
unfolding IsDue
none_due s uri none (u, has, is) =
    let few : length s.due.items ≡ 0 = ap length none in
    let l : has.0 < length s.due.items = has.1 in
    absurd (omega (arith, l, few))
