use Rattle.kdl.proofs.Common.{rules, arith, ◌≡◌, ℕ, ◌-◌, ◌<◌, ◌≤◌, List, [], ◌∷◌, ◌++◌, length, get_or, ap, ◌∙◌, refl, Bool, true, false, Option, None, Some, is_none, is_some, inl, inr, All, length-append, out-KdlNode, KdlNode, KdlNodeFormat}
use Rattle.std.specs.List.{AllWithin}
use Rattle.std.specs.List.Sorted.{IsPartitionedBy, IsPartitionPoint}
use Rattle.std.proofs.lemmas.Bool.{cases_lt}
use Rattle.std.proofs.lemmas.List.{get_or_append_left, get_or-append_right}
use Rattle.std.proofs.lemmas.List.Sorted.{IsPartitionPoint-from_clause}
use Rattle.kdl.proofs.Clearing.{IsDue, IsNotDue}
use Rattle.kdl.proofs.document.KdlDocument.due_from.Goals as goal

-- the test that finds the place
abbrev is_done : KdlNode → Bool
is_done n = is_none (out-KdlNode n).format

none_some : (o : Option KdlNodeFormat) → is_some o ≡ false → is_none o ≡ true
none_some None e = refl
none_some (Some f) e = absurd (cc)

some_none : (o : Option KdlNodeFormat) → is_some o ≡ true → is_none o ≡ false
some_none None e = absurd (cc)
some_none (Some f) e = refl

done_at : (xs done left : List KdlNode) → xs ≡ done ++ left → All IsNotDue done → (k : ℕ) (d : KdlNode) → k < length done → is_done (get_or xs k d) ≡ true
done_at xs done left e h k d lt = ap (λ z. is_done (get_or z k d)) e ∙ ap is_done (get_or_append_left done left d k lt) ∙ none_some (out-KdlNode (get_or done k d)).format (h k d lt)

due_at : (xs done left : List KdlNode) → xs ≡ done ++ left → All IsDue left → (k : ℕ) (d : KdlNode) → length done ≤ k → k < length xs → is_done (get_or xs k d) ≡ false
due_at xs done left e h k d le lt =
    ap (λ z. is_done (get_or z k d)) e
    ∙ ap is_done (get_or-append_right done left (length done) k d refl le)
    ∙ some_none (out-KdlNode (get_or left (k - length done) d)).format (h (k - length done) d (omega (arith, ap length e, length-append done left)))

parted : (xs done left : List KdlNode) → xs ≡ done ++ left → All IsNotDue done → All IsDue left → IsPartitionedBy is_done xs
parted xs done left e h k i j d le lt t =
    elim (cases_lt j (length done)) [ inl in_done ↦ done_at xs done left e h i d (omega arith) | inr in_left ↦ absurd (let f = due_at xs done left e k j d in_left lt in cc) ]

not_before : (xs done left : List KdlNode) (i : ℕ) → xs ≡ done ++ left → All IsNotDue done → AllWithin (λ y. is_done y ≡ false) xs i (length xs) → length done ≤ i
not_before xs [] left i e h q = omega arith
not_before xs (x ∷ done) left i e h q =
    elim (cases_lt i (length (x ∷ done))) [
      | inl lt ↦
          let f = q i x (omega arith) (omega (arith, ap length e, length-append (x ∷ done) left)) in
          let t = done_at xs (x ∷ done) left e h i x lt in
          absurd (cc)
      | inr le ↦ le
    ]

not_after : (xs done left : List KdlNode) (i : ℕ) → xs ≡ done ++ left → All IsDue left → i ≤ length xs → AllWithin (λ y. is_done y ≡ true) xs 0 i → i ≤ length done
not_after xs done [] i e h le p = omega (arith, ap length e, length-append done [])
not_after xs done (y ∷ left) i e h le p =
    elim (cases_lt (length done) i) [
      | inl lt ↦
          let t = p (length done) y (omega arith) lt in
          let f = due_at xs done (y ∷ left) e h (length done) y (omega arith) (omega (arith, ap length e, length-append done (y ∷ left))) in
          absurd (cc)
      | inr ge ↦ ge
    ]

pub returns : goal.returns
returns c done left e h k =
    let xs = c.deref.result.now in
    let i = c.partition_point.result in
    let is : xs ≡ done ++ left = c.deref.ensures.value ∙ e in
    let found : IsPartitionPoint (λ y. is_done y ≡ true) (λ y. is_done y ≡ false) xs i =
    IsPartitionPoint-from_clause is_done xs i c.partition_point.ensures.partitioned (parted xs done left is h k) (λ a r f k. search rules)
    in
    omega (arith, not_before xs done left i is h found.1, not_after xs done left i is k c.partition_point.ensures.bound found.0)
