-- What is kept of a text, from the items that were read in it.
use Rattle.kdl_layout.proofs.Common.{◌≡◌, ℕ, suc, Bool, true, false, ◌||◌, List, [], ◌∷◌, ◌++◌, ◌==◌, length, refl, sym, ap, subst, ◌∙◌, Option, Some, None, MatchOption, Bor, and_parts, eqb-true, list_all, chars, Text, Newline, is_space, LineComment, between, EntryFormat, Item, comment, line_end, SpaceItems, LineSpaceItems, GapItems, Place, before_entry, before_block, after_block, spaced, PlaceItems, tail, EndItems, ItemsIn, WrittenUnless, KeptTail, KeptEnd, KeptBefore, is_kept_format, Settings, only_spaces, append-nil, takes_blocks, ends, KeptBeforeBlock, end_comment, end_space, last_place}
use Rattle.kdl_text.specs.Chars.Space.{space as a_space}
use Rattle.kdl_layout.proofs.Keeping.KeptPlaces.{space_item, end_again, takes_last}
use Rattle.kdl_layout.proofs.Listing.SpaceItems.{ends_spaced, place_end, ends_here}
use Rattle.kdl_layout.proofs.Rewriting.BeforeNewlines.{a_newline}
use Rattle.kdl_layout.proofs.Listing.ItemsUnique.{end_items_det, place_in_det}
use Rattle.kdl_layout.proofs.Rewriting.PlacesAgain.{tail_alone, tail_spaced}

-- where comments are left out
pub kept_none : (b : Bool) (has : List Item → Type 0) (write : List Item → Text) (t : Text) → b ≡ true → t ≡ [] → WrittenUnless b has write t
kept_none true has write t e x = x
kept_none false has write t e x = absurd cc

-- where they stay
pub kept_items : (b : Bool) (has : List Item → Type 0) (write : List Item → Text) (is : List Item) (t : Text) → b ≡ false → ItemsIn has is → t ≡ write is → WrittenUnless b has write t
kept_items true has write is t e h x = absurd cc
kept_items false has write is t e h x = (is, h, x)

-- where there are none
pub kept_empty : (b : Bool) (has : List Item → Type 0) (write : List Item → Text) (t : Text) → ItemsIn has [] → t ≡ [] → write [] ≡ [] → WrittenUnless b has write t
kept_empty true has write t i x e = x
kept_empty false has write t i x e = ([], i, x ∙ sym e)

-- written in the same way
pub kept_same : (b : Bool) (has : List Item → Type 0) (write write' : List Item → Text) (t : Text) → ((is : List Item) → write is ≡ write' is) → WrittenUnless b has write t → WrittenUnless b has write' t
kept_same true has write write' t same k = k
kept_same false has write write' t same (is, i, e) = (is, i, e ∙ same is)

-- they are written after an empty text
pub written_after : (write : List Item → Text) (t u : Text) (is js : List Item) → t ≡ u ++ write js → u ≡ [] → js ≡ is → t ≡ write is
written_after write t u is js e x y = e ∙ ap (λ (z : Text). z ++ write js) x ∙ ap write y

-- of the text before an entry that keeps its form, and of one that has no format
pub kept_flagged : (s : Settings) (f : Option EntryFormat) (t : Text) → is_kept_format f ≡ true → t ≡ [] → KeptBefore s f t
kept_flagged s None t m e = absurd cc
kept_flagged s (Some f) t m e = rw m e

pub no_place : (is : List Item) → PlaceItems (before_entry false) [] is → ⊥
no_place is d = let h : false ≡ true = ((place_end (before_entry false) is).0 d).0 in absurd cc

pub kept_bare : (b : Bool) (t : Text) → t ≡ [] → WrittenUnless b (PlaceItems (before_entry false) []) tail t
kept_bare true t e = e
kept_bare false t e = ([], ItemsIn.no_items no_place, e)

-- of a terminator
pub end_kept : (b : Bool) (terminator : Text) (o : Option (Bor (List ℕ))) → b ≡ false
    → MatchOption o (LineComment terminator [] → ⊥) (λ c. LineComment terminator [] × (chars c.now ≡ between terminator (line_end terminator)))
    → MatchOption o (KeptEnd b terminator [] []) (λ c. KeptEnd b terminator (32 ∷ []) (chars c.now))
end_kept true terminator o e h = absurd cc
end_kept false terminator None e h = ([], EndItems.other h, refl, refl)
end_kept false terminator (Some c) e h = (comment (between terminator (line_end terminator)) ∷ [], EndItems.line_comment h.0, refl, h.1)

-- of the same text, under another name
pub tail_at : (s : Settings) {p q : Place} {place place' : Text} (t : Text) → p ≡ q → place ≡ place' → WrittenUnless s.no_comments (PlaceItems p place) tail t → KeptTail s q place' t
tail_at s {p} {q} {place} {place'} t e h k = subst (λ (x : Place). KeptTail s x place' t) e (subst (λ (x : Text). KeptTail s p x t) h k)

-- a list without a length has no elements
pub no_elements : {A : Type 0} (xs : List A) (n : ℕ) (b : Bool) → n ≡ length xs → b ≡ (n == 0) → b ≡ true → xs ≡ []
no_elements [] n b l e t = refl
no_elements (x ∷ xs) n b l e t = let z : suc (length xs) ≡ 0 = sym l ∙ eqb-true n 0 (sym e ∙ t) in absurd cc

-- a text of spaces has no items
pub spaces_place : (p : Place) (c : ℕ) (t : Text) → only_spaces (c ∷ t) ≡ true → PlaceItems p (c ∷ t) []
spaces_place p c [] h =
    let e = and_parts (is_space c) (only_spaces []) h in
    PlaceItems.space {is = []} {js = []} (SpaceItems.space (a_space {c = c} e.0)) (PlaceItems.ends (ends_spaced p))
spaces_place p c (d ∷ t) h =
    let e = and_parts (is_space c) (only_spaces (d ∷ t)) h in
    PlaceItems.space {is = []} {js = []} (SpaceItems.space (a_space {c = c} e.0)) (spaces_place (spaced true p) d t e.1)

pub spaces_in : (p : Place) (t : Text) → only_spaces t ≡ true → ItemsIn (PlaceItems p t) []
spaces_in (before_entry true) [] h = ItemsIn.items (PlaceItems.ends refl)
spaces_in (before_entry false) [] h = ItemsIn.no_items no_place
spaces_in before_block [] h = ItemsIn.items (PlaceItems.ends refl)
spaces_in after_block [] h = ItemsIn.items (PlaceItems.ends refl)
spaces_in p (c ∷ t) h = ItemsIn.items (spaces_place p c t h)

-- nor has one of spaces and newlines between nodes
abbrev pub is_blank_gap : Text → Bool
is_blank_gap s = list_all (λ c. (c == 32) || (c == 10)) s

begins_blank_gap : (c : ℕ) (s : Text) → ((c == 32) || (c == 10)) ≡ true → LineSpaceItems (c ∷ s) s []
begins_blank_gap c s e = go (c == 32) refl e
  where
    go : (b : Bool) → (c == 32) ≡ b → (b || (c == 10)) ≡ true → LineSpaceItems (c ∷ s) s []
    go true h e = LineSpaceItems.space (subst (λ (d : ℕ). SpaceItems (d ∷ s) s []) (sym (eqb-true c 32 h)) (space_item s))
    go false h e = LineSpaceItems.newline (subst (λ (d : ℕ). Newline (d ∷ s) s) (sym (eqb-true c 10 e)) (a_newline s))

pub blank_gap : (s : Text) → is_blank_gap s ≡ true → GapItems s []
blank_gap [] h = GapItems.none
blank_gap (c ∷ s) h =
    let e = and_parts ((c == 32) || (c == 10)) (is_blank_gap s) h in
    GapItems.space {is = []} {js = []} (begins_blank_gap c s e.0) (blank_gap s e.1)

-- what may come after written items of a place
record Follows (p : Place) (more : Text) : Type 0 where
  again : (q : Text) (is : List Item) → PlaceItems p q is → PlaceItems p (tail is ++ more) is
  alone : PlaceItems p more []

space_follows : (p : Place) → Follows p (32 ∷ [])
space_follows p = record { again = λ q is d. tail_spaced d; alone = PlaceItems.space (space_item []) (ends (ends_spaced p)) }

nothing_follows : (p : Place) → takes_blocks p ≡ true → Follows p []
nothing_follows p h = record {
  again = λ q is d. subst (λ (t : Text). PlaceItems p t is) (sym (append-nil (tail is))) (tail_alone h d);
  alone = ends (ends_here p h);
}

end_follows : (b : Bool) (p : Place) → takes_blocks p ≡ true → (t space comment : Text) → KeptEnd b t space comment → Follows p space
end_follows true p h t space kept k = subst (Follows p) (sym k.0) (nothing_follows p h)
end_follows false p h t space kept (_, EndItems.line_comment l, e, f) = rw e (space_follows p)
end_follows false p h t space kept (_, EndItems.other g, e, f) = rw e (nothing_follows p h)

-- before an entry that has no text before it there is nothing
pub none_before : (b : Bool) (t : Text) → WrittenUnless b (PlaceItems (before_entry false) []) tail t → t ≡ []
none_before true t h = h
none_before false t (is, ItemsIn.items d, e) = absurd (no_place is d)
none_before false t (_, ItemsIn.no_items f, e) = e

-- in a place of a node
tail_items : {p : Place} {more : Text} → Follows p more → {q : Text} {is : List Item} → ItemsIn (PlaceItems p q) is → PlaceItems p (tail is ++ more) is
tail_items f (ItemsIn.items d) = f.again _ _ d
tail_items f (ItemsIn.no_items g) = f.alone

kept_tail : (b : Bool) {p : Place} {more : Text} → Follows p more → (q t u : Text) → WrittenUnless b (PlaceItems p q) tail t → WrittenUnless b (PlaceItems p (t ++ more)) tail u → u ≡ t
kept_tail true f q t u e h = h ∙ sym e
kept_tail false {p} {more} f q t u (is, i, e) (js, j, h) =
    let d : PlaceItems p (t ++ more) is = rw e (tail_items f i) in
    h ∙ ap tail (place_in_det j (ItemsIn.items d)) ∙ sym e

pub before_block_stays : (s : Settings) (b : Bool) (q t u : Text) → KeptBeforeBlock s b q t → KeptBeforeBlock s b (t ++ (32 ∷ [])) u → u ≡ t
before_block_stays s false q t u e h = h ∙ sym e
before_block_stays s true q t u w v = kept_tail s.no_comments (space_follows before_block) q t u w v

pub last_stays : (s : Settings) (b : Bool) (q t u end space comment : Text) → KeptEnd s.no_comments end space comment → KeptTail s (last_place b) q t → KeptTail s (last_place b) (t ++ space) u → u ≡ t
last_stays s b q t u end space kept e w v = kept_tail s.no_comments (end_follows s.no_comments (last_place b) (takes_last b) end space kept e) q t u w v

pub before_entry_stays : (b : Bool) (q t u : Text) → WrittenUnless b (PlaceItems (before_entry false) q) tail t → WrittenUnless b (PlaceItems (before_entry false) (t ++ (32 ∷ []))) tail u → u ≡ t
before_entry_stays b q t u w v = kept_tail b (space_follows (before_entry false)) q t u w v

-- a terminator that is a line comment is one again
pub end_stays : (b : Bool) (end space comment space' comment' : Text) → KeptEnd b end space comment → KeptEnd b (comment ++ (10 ∷ [])) space' comment' → (space' ≡ space) × (comment' ≡ comment)
end_stays true end space kept space' kept' k m = (m.0 ∙ sym k.0, m.1 ∙ sym k.1)
end_stays false end space kept space' kept' (is, i, e, f) (js, j, g, h) =
    let k : EndItems (kept ++ (10 ∷ [])) is = rw f (end_again i) in
    let d = end_items_det j k in
    (g ∙ ap end_space d ∙ sym e, h ∙ ap end_comment d ∙ sym f)
