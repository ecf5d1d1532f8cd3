-- The open blocks, kept in a row with the last one at its end.
use Rattle.std.proofs.Common.{◌≡◌, ◌⊎◌, inl, inr, ℕ, suc, ◌==◌, Bool, true, false, List, [], ◌∷◌, ◌++◌, length, reverse, refl, sym, ap, ◌∙◌}
use Rattle.std.proofs.lemmas.Bool.{eq-eqb, eqb-true}
use Rattle.std.proofs.lemmas.List.{reverse-append}
use Rattle.kdl_syntax.specs.Control.{at, finish, is_gap, is_over, is_word}
use Rattle.kdl_syntax.specs.declared.control.{Frame.Frame, Phase.Phase, Spot.Spot}
use Rattle.kdl_syntax.specs.declared.control.{Spot.TheVariants.Fresh, Spot.TheVariants.Spaced, Word.TheVariants.MayBeKey, Word.TheVariants.NoKey}
use Rattle.kdl_syntax.specs.declared.control.Phase.TheVariants.{Gap, InNode, Kept}

-- what holds only where no block is open
at_last : (P : List Frame → Bool) → ((x : Frame) (xs : List Frame) → P (x ∷ xs) ≡ false) → (fs : List Frame) (f : Frame) → P (fs ++ (f ∷ [])) ≡ false
at_last P h [] f = h f []
at_last P h (g ∷ gs) f = h g (gs ++ (f ∷ []))

none_open : (P : List Frame → Bool) → ((x : Frame) (xs : List Frame) → P (x ∷ xs) ≡ false) → (f : Frame) (fs : List Frame) → P (reverse (f ∷ fs)) ≡ false
none_open P h f fs = ap P (reverse-append (f ∷ []) fs) ∙ at_last P h (reverse fs) f

no_zero : (n k : ℕ) → n ≡ suc k → (n == 0) ≡ false
no_zero n k e = go (n == 0) refl
  where
    go : (b : Bool) → (n == 0) ≡ b → (n == 0) ≡ false
    go true x = let z : n ≡ 0 = eqb-true n 0 x in absurd cc
    go false x = x

where_closed : (P : List Frame → Bool) → P [] ≡ true → ((x : Frame) (xs : List Frame) → P (x ∷ xs) ≡ false) → (fs : List Frame) (n : ℕ) → n ≡ length fs → (n == 0) ≡ P (reverse fs)
where_closed P t h [] n e = rw e (sym t)
where_closed P t h (g ∷ gs) n e = no_zero n (length gs) e ∙ sym (none_open P h g gs)

where_open : (P : List Frame → Bool) → ((x : Frame) (xs : List Frame) → P (x ∷ xs) ≡ false) → (fs : List Frame) (n : ℕ) → n ≡ length fs → false ≡ (n == 0) → P (reverse fs) ≡ false
where_open P h [] n e f = let x = eq-eqb n 0 e in absurd cc
where_open P h (g ∷ gs) n e f = none_open P h g gs

pub gap_closed : (p : Phase) (fs : List Frame) (n : ℕ) → p ≡ Gap → n ≡ length fs → (n == 0) ≡ is_gap (at p (reverse fs))
gap_closed p fs n e l = rw e (where_closed (λ zs. is_gap (at Gap zs)) refl (λ x xs. refl) fs n l)

pub end_closed : (p : Phase) (fs : List Frame) (n : ℕ) → (p ≡ Gap) ⊎ (((q : Spot) × (p ≡ InNode q)) ⊎ (p ≡ Kept)) → n ≡ length fs → (n == 0) ≡ finish (at p (reverse fs))
end_closed p fs n (inl e) l = rw e (where_closed (λ zs. finish (at Gap zs)) refl (λ x xs. refl) fs n l)
end_closed p fs n (inr (inl (q, e))) l = rw e (where_closed (λ zs. finish (at (InNode q) zs)) refl (λ x xs. refl) fs n l)
end_closed p fs n (inr (inr e)) l = rw e (where_closed (λ zs. finish (at Kept zs)) refl (λ x xs. refl) fs n l)

over_open : (p : Phase) (x : Frame) (xs : List Frame) → is_over (at p (x ∷ xs)) ≡ false
over_open (InNode (Fresh MayBeKey)) x xs = refl
over_open (InNode (Fresh NoKey)) x xs = refl
over_open _ x xs = refl

pub not_over : (p : Phase) (fs : List Frame) (n : ℕ) → n ≡ length fs → false ≡ (n == 0) → is_over (at p (reverse fs)) ≡ false
not_over p fs n l e = where_open (λ zs. is_over (at p zs)) (over_open p) fs n l e

word_open : (p : Phase) (x : Frame) (xs : List Frame) → is_word (at p (x ∷ xs)) ≡ false
word_open (InNode (Fresh MayBeKey)) x xs = refl
word_open (InNode (Spaced MayBeKey)) x xs = refl
word_open _ x xs = refl

pub no_word : (p : Phase) (fs : List Frame) (n : ℕ) → n ≡ length fs → false ≡ (n == 0) → false ≡ is_word (at p (reverse fs))
no_word p fs n l e = sym (where_open (λ zs. is_word (at p zs)) (word_open p) fs n l e)

all_closed : (fs : List Frame) (n : ℕ) → n ≡ length fs → true ≡ (n == 0) → fs ≡ []
all_closed [] n l e = refl
all_closed (g ∷ gs) n l e = let z : n ≡ 0 = eqb-true n 0 (sym e) in absurd cc

pub word_here : (p : Phase) (q : Spot) (fs : List Frame) (n : ℕ) (b : Bool) → p ≡ InNode q → n ≡ length fs → true ≡ (n == 0) → b ≡ is_word (at (InNode q) []) → b ≡ is_word (at p (reverse fs))
word_here p q fs n b e l z w = rw (e, all_closed fs n l z) w
