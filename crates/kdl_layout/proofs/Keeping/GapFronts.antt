-- Gaps that come before any other gap, with their items.
use Rattle.kdl_layout.proofs.Common.{◌≡◌, ℕ, ◌==◌, Bool, true, false, List, [], ◌∷◌, ◌++◌, refl, sym, subst, append_assoc, append-nil, arith, nat_tests, list_all, if◌then◌else◌, Text, is_space, LineSpace, t_space, t_newline, token_det, Gap, no_gap, Nodes, first, Item, LineSpaceItems, GapItems, Settings, indentation, newline_at_end, without_bom, newline_gap}
use Rattle.kdl_entry.specs.Places.{Is}
use Rattle.kdl_syntax.specs.Tokens.{t_bom}
use Rattle.kdl_layout.proofs.Rewriting.BeforeNewlines.{a_newline}
use Rattle.kdl_layout.proofs.Listing.SpaceItems.{gap_none}
use Rattle.kdl_layout.proofs.Rewriting.LinesAgain.{spaces_before}
use Rattle.kdl_layout.proofs.Keeping.KeptPlaces.{level_spaces, indentation_gap}

-- a gap before each other one, and its items before the other's
pub record Front (p : Text) (is : List Item) : Type 0 where
  pub gap : {t r : Text} → Gap true t r → Gap true (p ++ t) r
  pub items : {t : Text} {js : List Item} → GapItems t js → GapItems (p ++ t) (is ++ js)

pub nothing : Front [] []
nothing = record { gap = λ g. g; items = λ g. g }

pub joined : {p q : Text} {is js : List Item} → Front p is → Front q js → Front (p ++ q) (is ++ js)
joined {p} {q} {is} {js} f g = record {
  gap = λ {t} {r} h. subst (λ (s : Text). Gap true s r) (sym (append_assoc p q t)) (f.gap (g.gap h));
  items = λ {t} {js = ks} h. subst (λ (s : Text). GapItems s (is ++ js ++ ks)) (sym (append_assoc p q t))
      (subst (λ (l : List Item). GapItems (p ++ (q ++ t)) l) (sym (append_assoc is js ks)) (f.items (g.items h)));
}

-- as a whole text
pub alone : {p : Text} {is : List Item} → Front p is → GapItems p is
alone {p} {is} f = subst (λ (s : Text). GapItems s is) (append-nil p) (subst (λ (l : List Item). GapItems (p ++ []) l) (append-nil is) (f.items GapItems.none))

-- before any rest
pub here : {p : Text} {is : List Item} → Front p is → (r : Text) → Is (Gap true) p (p ++ r) r
here f r = record { is = f.gap no_gap; text = refl }

pub newline : Front (10 ∷ []) []
newline = record { gap = λ g. newline_gap g; items = λ {t} g. GapItems.space (LineSpaceItems.newline (a_newline t)) g }

pub newline_if : (compact : Bool) (ns : Nodes) → Front (newline_at_end compact ns) []
newline_if true ns = nothing
newline_if false Nodes.none = newline
newline_if false (first n ns) = nothing

pub indented : (s : Settings) → list_all is_space s.indent ≡ true → (level : ℕ) → Front (indentation s level) []
indented s ok level = record { gap = λ g. indentation_gap s ok level g; items = λ g. spaces_before (indentation s level) (level_spaces s.indent ok level) g }

-- U+FEFF begins no gap
bom_line : (s : Text) {r : Text} → LineSpace (0xFEFF ∷ s) r → ⊥
bom_line s (LineSpace.space n) = let e = (token_det (t_space n) t_bom).1 in cc
bom_line s (LineSpace.«break» n) = let e = (token_det (t_newline n) t_bom).1 in cc

bom_gap : (s : Text) {is : List Item} → GapItems (0xFEFF ∷ s) is → ⊥
bom_gap s {is} g = gap_none (λ e. cc) (λ r l. bom_line s l) (λ t e. cc) is g

pub gap_without_bom : (t : Text) {is : List Item} → GapItems t is → without_bom t ≡ t
gap_without_bom [] g = refl
gap_without_bom (c ∷ s) {is} g = go (c == 0xFEFF) refl
  where
    go : (b : Bool) → (c == 0xFEFF) ≡ b → (if b then s else c ∷ s) ≡ c ∷ s
    go false e = refl
    go true e = let h : c ≡ 0xFEFF = grind (arith, nat_tests) in absurd (bom_gap s (subst (λ (d : ℕ). GapItems (d ∷ s) is) h g))
