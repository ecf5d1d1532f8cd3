-- A text has a list of items exactly where it may be before the nodes of a document, and a terminator has items exactly where it is a comment.
use Rattle.kdl_laws.proofs.Common.{◌≡◌, ◌↔◌, ℕ, Bool, true, false, List, [], ◌∷◌, refl, sym, subst, arith, ◌≢◌, if◌then◌else◌, Text, no_gap, Item, GapItems, EndItems, without_bom, gap_without_bom}
use Rattle.std.proofs.Common.{◌==◌}
use Rattle.std.proofs.lemmas.Bool.Decides.{nat_tests}
use Rattle.kdl_text.specs.Trivia.{LineComment}
use Rattle.kdl_layout.proofs.Listing.PlaceTexts.{HasGap, gap_has, gap_of}
use Rattle.kdl_laws.specs.Leading.{DocumentLeading, no_bom, after_bom}

-- before the nodes of a document
document_has : {s : Text} → DocumentLeading s → HasGap (without_bom s)
document_has (no_bom {t = t} g) = let h = gap_has g in (h.0, subst (λ (z : Text). GapItems z h.0) (sym (gap_without_bom t h.1)) h.1)
document_has (after_bom g) = gap_has g

document_of : (s : Text) → HasGap (without_bom s) → DocumentLeading s
document_of [] h = no_bom no_gap
document_of (c ∷ s) h = go (c == 0xFEFF) refl h
  where
    go : (b : Bool) → (c == 0xFEFF) ≡ b → HasGap (if b then s else c ∷ s) → DocumentLeading (c ∷ s)
    go true e h = let f : 0xFEFF ≡ c = grind (arith, nat_tests) in subst (λ (d : ℕ). DocumentLeading (d ∷ s)) f (after_bom (gap_of h.1))
    go false e h = no_bom (gap_of h.1)

pub document_items : (s : Text) → DocumentLeading s ↔ ((is : List Item) × GapItems (without_bom s) is)
document_items s = (λ d. document_has d, λ h. document_of s h)

-- a terminator
comment_has : {t : Text} {is : List Item} → EndItems t is → LineComment t [] → is ≢ []
comment_has (EndItems.line_comment m) l = λ e. cc
comment_has (EndItems.other f) l = absurd (f l)

comment_of : {t : Text} {is : List Item} → EndItems t is → is ≢ [] → LineComment t []
comment_of (EndItems.line_comment m) h = m
comment_of (EndItems.other f) h = absurd (h refl)

pub terminator_items : (t : Text) (is : List Item) → EndItems t is → (is ≢ []) ↔ LineComment t []
terminator_items t is d = (λ h. comment_of d h, λ l. comment_has d l)
