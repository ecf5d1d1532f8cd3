-- What is kept inside an entry or a type, and before an entry that continues the line: it reads back, and is kept again.
use Rattle.kdl_layout.proofs.Common.{◌≡◌, Bool, true, false, List, [], ◌∷◌, ◌++◌, refl, sym, ap, subst, ◌∙◌, Option, Some, None, option_map, append-nil, ℕ, Result, Ok, Err, String, string_bytes, Global, IfOk, and_parts, both_true, eqb-true, if◌then◌else◌, not, is_some, ◌&&◌, ◌==◌, IsTrue, length, chars, identifier_tree, KdlIdentifier, Text, Star, Plus, plus, is_space, NodeSpace, ValueEnd, EntryLeading, leading, NodeFormat, Item, before_entry, PlaceItems, AreNodeSpaces, Settings, no_newline, only_spaces, or_empty, IsTypedFormat, IsContinued, KeptPlace, KeptPlaceIf, KeptLeading, KeptLeadingIf, line_text, TypeTexts, KeptTypeTexts, KeptTypeTextsIf, node_type_texts, text_of, items_view}
use Rattle.kdl_layout.proofs.Listing.SpaceItems.{space_items}
use Rattle.kdl_layout.proofs.NodeSpaces.{empty_spaces, spaces_then}
use Rattle.kdl_layout.proofs.Rewriting.BeforeNewlines.{some_end}
use Rattle.kdl_layout.proofs.Listing.ItemsUnique.{place_items_det}
use Rattle.kdl_layout.specs.Internal.KeptTexts.{KeepsLeading, KeptTypeTextsIn, put_type_texts}
use Rattle.kdl_layout.specs.declared.spaces.Item as held
use Rattle.kdl_layout.proofs.Spacing.Lines.{space_no_newline}
use Rattle.kdl_layout.specs.Respelled.{IsCommented}
use Rattle.kdl_layout.proofs.Rewriting.LinesAgain.{line_text_again}

-- what is kept of a text is node-spaces
pub place_spaces : {t r : Text} → KeptPlace t r → AreNodeSpaces r
place_spaces (KeptPlace.kept h) = h.0
place_spaces (KeptPlace.other n) = empty_spaces

pub place_if_spaces : (b : Bool) (t r : Text) → KeptPlaceIf b t r → AreNodeSpaces r
place_if_spaces false t r h = subst AreNodeSpaces (sym h) empty_spaces
place_if_spaces true t r h = place_spaces h

-- around a type
pub record TypeSpaces (x : TypeTexts) : Type 0 where
  pub before_name : AreNodeSpaces x.before_name
  pub after_name : AreNodeSpaces x.after_name
  pub after : AreNodeSpaces x.after

abbrev pub no_texts : TypeTexts
no_texts = record { before_name = []; after_name = []; after = [] }

pub no_type_spaces : TypeSpaces no_texts
no_type_spaces = record { before_name = empty_spaces; after_name = empty_spaces; after = empty_spaces }

-- of each of them, what is kept is kept of its place
pub each_place : (b : Bool) (t x : TypeTexts) → KeptTypeTextsIf b t x → KeptPlaceIf b t.before_name x.before_name × KeptPlaceIf b t.after_name x.after_name × KeptPlaceIf b t.after x.after
each_place false t x h = (ap (λ (z : TypeTexts). z.before_name) h, ap (λ (z : TypeTexts). z.after_name) h, ap (λ (z : TypeTexts). z.after) h)
each_place true t x h = (h.before_name, h.after_name, h.after)

pub type_spaces_if : (b : Bool) (t x : TypeTexts) → KeptTypeTextsIf b t x → TypeSpaces x
type_spaces_if b t x h =
    let k = each_place b t x h in
    record { before_name = place_if_spaces b t.before_name x.before_name k.0; after_name = place_if_spaces b t.after_name x.after_name k.1; after = place_if_spaces b t.after x.after k.2 }

-- LF for a CR at its end makes a text no spaces, and spaces none
feed_no_space : is_space 10 ≡ is_space 13
unfolding is_space
feed_no_space = refl

line_space_char : (c : ℕ) → is_space (if c == 13 then 10 else c) ≡ is_space c
line_space_char c = go (c == 13) refl
  where
    go : (b : Bool) → (c == 13) ≡ b → is_space (if b then 10 else c) ≡ is_space c
    go true e = feed_no_space ∙ ap is_space (sym (eqb-true c 13 e))
    go false e = refl

pub line_spaces : (t : Text) → only_spaces (line_text t) ≡ only_spaces t
line_spaces [] = refl
line_spaces (c ∷ []) = ap (λ (b : Bool). b && true) (line_space_char c)
line_spaces (c ∷ d ∷ t) = ap (λ (b : Bool). is_space c && b) (line_spaces (d ∷ t))

-- nothing is kept of spaces
pub nothing_of_spaces : {t r : Text} → only_spaces t ≡ true → KeptPlace t r → r ≡ []
nothing_of_spaces {t} e (KeptPlace.kept h) = let z : true ≡ false = sym e ∙ sym (line_spaces t) ∙ h.1 in absurd cc
nothing_of_spaces e (KeptPlace.other n) = refl

-- no more than spaces around a type
pub record OnlySpaces (x : TypeTexts) : Type 0 where
  pub before_name : only_spaces x.before_name ≡ true
  pub after_name : only_spaces x.after_name ≡ true
  pub after : only_spaces x.after ≡ true

pub place_bare_if : (b : Bool) (t r : Text) → only_spaces t ≡ true → KeptPlaceIf b t r → r ≡ []
place_bare_if false t r e h = h
place_bare_if true t r e h = nothing_of_spaces e h

pub types_bare_if : (b : Bool) (t x : TypeTexts) → OnlySpaces t → KeptTypeTextsIf b t x → x ≡ no_texts
types_bare_if b t x e h =
    let k = each_place b t x h in
    let before_name = place_bare_if b t.before_name x.before_name e.before_name k.0 in
    let after_name = place_bare_if b t.after_name x.after_name e.after_name k.1 in
    let after = place_bare_if b t.after x.after e.after k.2 in
    λ i. record { before_name = before_name i; after_name = after_name i; after = after i }

-- what is kept is kept again
pub place_again : {t r q : Text} → KeptPlace t r → KeptPlace r q → q ≡ r
place_again {t = t} (KeptPlace.kept h) (KeptPlace.kept k) = line_text_again t
place_again {t = t} (KeptPlace.kept h) (KeptPlace.other n) = absurd (n (subst IsCommented (sym (line_text_again t)) h))
place_again (KeptPlace.other n) k = nothing_of_spaces refl k

pub place_again_if : (b : Bool) (t r q : Text) → KeptPlaceIf b t r → KeptPlaceIf b r q → q ≡ r
place_again_if false t r q h k = k ∙ sym h
place_again_if true t r q h k = place_again h k

pub types_again_if : (b : Bool) (t x y : TypeTexts) → KeptTypeTextsIf b t x → KeptTypeTextsIf b x y → y ≡ x
types_again_if b t x y h k =
    let f = each_place b t x h in
    let g = each_place b x y k in
    let before_name = place_again_if b t.before_name x.before_name y.before_name f.0 g.0 in
    let after_name = place_again_if b t.after_name x.after_name y.after_name f.1 g.1 in
    let after = place_again_if b t.after x.after y.after f.2 g.2 in
    λ i. record { before_name = before_name i; after_name = after_name i; after = after i }

pub leading_again : {s : Settings} {old laid r q : Text} → KeptLeading s old laid r → KeptLeading s r laid q → q ≡ r
leading_again (KeptLeading.continued c) (KeptLeading.continued d) = refl
leading_again (KeptLeading.continued c) (KeptLeading.other n) = absurd (n c)
leading_again (KeptLeading.other n) (KeptLeading.continued d) = refl
leading_again (KeptLeading.other n) (KeptLeading.other m) = refl

pub leading_again_if : (keep : Bool) (s : Settings) (old laid r q : Text) → KeptLeadingIf keep s old laid r → KeptLeadingIf keep s r laid q → q ≡ r
leading_again_if false s old laid r q h k = k ∙ sym h
leading_again_if true s old laid r q h k = leading_again h k

-- a text that continues the line
pub not_empty : {s : Settings} {t : Text} → IsContinued s t → t ≡ [] → ⊥
not_empty c e = let z : true ≡ false = sym (ap no_newline e) ∙ c.newline in cc

pub continued_ends : {s : Settings} {t : Text} → IsContinued s t → (r : Text) → ValueEnd true (t ++ r)
continued_ends {t = t} c r = some_end (spaces_then t c.spaces (not_empty c) r)

pub continued_leads : {s : Settings} {t : Text} → IsContinued s t → (r : Text) → EntryLeading (t ++ r) r
continued_leads {t = t} c r = leading Star.none (spaces_then t c.spaces (not_empty c) r)

-- such a text may be before an entry
pub spaces_place : {s r : Text} → Star NodeSpace s r → r ≡ [] → (is : List Item) × PlaceItems (before_entry true) s is
spaces_place Star.none e = ([], subst (λ (t : Text). PlaceItems (before_entry true) t []) (sym e) (PlaceItems.ends refl))
spaces_place (Star.more n ns) e = let (is, d) = space_items n in let (js, k) = spaces_place ns e in (is ++ js, PlaceItems.space d k)

place_there : {s : Text} → Plus NodeSpace s [] → (is : List Item) × PlaceItems (before_entry false) s is
place_there (plus n ns) = let (is, d) = space_items n in let (js, k) = spaces_place ns refl in (is ++ js, PlaceItems.space d k)

pub no_place_left : {s : Settings} {t : Text} → IsContinued s t → ((is : List Item) → PlaceItems (before_entry false) t is → ⊥) → ⊥
no_place_left {t = t} c n =
    let x = place_there (subst (λ (u : Text). Plus NodeSpace u []) (append-nil t) (spaces_then t c.spaces (not_empty c) [])) in
    n x.0 x.1

-- spaces hold no newline
spaces_on_line : (t : Text) → only_spaces t ≡ true → no_newline t ≡ true
spaces_on_line [] h = refl
spaces_on_line (c ∷ t) h =
    let e = and_parts (is_space c) (only_spaces t) h in
    both_true (ap not (space_no_newline c e.0)) (spaces_on_line t e.1)

pub spaces_continue_nothing : {s : Settings} {t : Text} → only_spaces t ≡ true → IsContinued s t → ⊥
spaces_continue_nothing {t = t} h c = let z : true ≡ false = sym (spaces_on_line t h) ∙ c.newline in cc

-- what was kept of the texts around a type, put back
texts_put : (b : Bool) (old : Option NodeFormat) (o : Option TypeTexts) (f g : Option NodeFormat) → KeptTypeTextsIn b old o → g ≡ put_type_texts o f → IsTypedFormat b (or_empty old) f g
texts_put false old None f g k e = e
texts_put true old (Some x) f g k e = (x, k, e)
texts_put _ old _ f g k e = absurd assumption

some_tree : (o : Option KdlIdentifier) → is_some o ≡ is_some (option_map identifier_tree o)
some_tree None = refl
some_tree (Some i) = refl

pub typed_put : (keep b : Bool) (ty : Option KdlIdentifier) (old : Option NodeFormat) (o : Option TypeTexts) (f g : Option NodeFormat) → b ≡ is_some ty → KeptTypeTextsIn (keep && b) old o → g ≡ put_type_texts o f
    → IsTypedFormat (keep && is_some (option_map identifier_tree ty)) (or_empty old) f g
typed_put keep b ty old o f g h k e = subst (λ (z : Bool). IsTypedFormat (keep && z) (or_empty old) f g) (h ∙ some_tree ty) (texts_put (keep && b) old o f g k e)

-- The steps that find what is kept there.
-- a text of spaces, one that may not be between two parts, and one that is copied
pub place_of_spaces : (t u : Text) → only_spaces t ≡ true → u ≡ [] → KeptPlace t u
place_of_spaces t u h e = subst (KeptPlace t) (sym e) (KeptPlace.other (λ k. let z : true ≡ false = sym h ∙ sym (line_spaces t) ∙ k.1 in absurd cc))

pub place_refused : (t v u : Text) (b : Bool) → v ≡ line_text t → b ≡ false → (AreNodeSpaces v → IsTrue b) → u ≡ [] → KeptPlace t u
place_refused t v u b l h f e = subst (KeptPlace t) (sym e) (KeptPlace.other (λ k. let z : false ≡ true = sym h ∙ f (subst AreNodeSpaces (sym l) k.0) in absurd cc))

pub place_copied : (t v : Text) → v ≡ line_text t → only_spaces t ≡ false → AreNodeSpaces v → KeptPlace t v
place_copied t v l h a = subst (KeptPlace t) (sym l) (KeptPlace.kept (subst AreNodeSpaces l a, line_spaces t ∙ h))

-- a place without items
pub no_items : (t : Text) (is : List Item) (b : Bool) → PlaceItems (before_entry false) t is → (b ≡ true → is ≡ []) → (is ≡ [] → b ≡ true) → (IsTrue b → PlaceItems (before_entry false) t []) × (PlaceItems (before_entry false) t [] → IsTrue b)
no_items t is b d f g = (λ h. subst (PlaceItems (before_entry false) t) (f h) d, λ k. g (place_items_det d k))

pub empty_view : (xs : List held.Item) (n : ℕ) (b : Bool) → n ≡ length xs → b ≡ (n == 0) → items_view xs ≡ [] → b ≡ true
empty_view [] n b l e h = e ∙ ap (λ (k : ℕ). k == 0) l
empty_view (x ∷ xs) n b l e h = absurd cc

-- the text before an entry
leading_there : (keep : Bool) (s : Settings) (t laid r : Text) → keep ≡ true → IsContinued s t → r ≡ t → KeptLeadingIf keep s t laid r
leading_there true s t laid r h c e = subst (KeptLeading s t laid) (sym e) (KeptLeading.continued c)
leading_there false s t laid r h c e = absurd cc

pub leading_copied : {E : Type 0} (r : Result (String Global) E) (keep : Bool) (s : Settings) (t : List ℕ) (laid : Text) → KeepsLeading keep s (chars t) true → IfOk r (λ x. string_bytes x ≡ t) → IfOk r (λ x. KeptLeadingIf keep s (chars t) laid (text_of x))
leading_copied (Err e) keep s t laid c x = x
leading_copied (Ok y) keep s t laid c x = leading_there keep s (chars t) laid (text_of y) c.0 c.1 (ap chars x)

pub leading_laid : (keep : Bool) (s : Settings) (old laid r : Text) → KeepsLeading keep s old false → r ≡ laid → KeptLeadingIf keep s old laid r
leading_laid true s old laid r n e = subst (KeptLeading s old laid) (sym e) (KeptLeading.other (n refl))
leading_laid false s old laid r n e = e

-- the texts around the type of a node
pub nothing_around : KeptTypeTexts no_texts no_texts
nothing_around = let p = place_of_spaces [] [] refl refl in record { before_name = p; after_name = p; after = p }

pub types_kept : (a b c : Bool) (o : Option NodeFormat) (x : TypeTexts) → a ≡ true → b ≡ false → c ≡ true → KeptTypeTexts (node_type_texts (or_empty o)) x → KeptTypeTextsIn (a && not b && c) o (Some x)
types_kept a b c o x e f g k = rw (e, f, g) k
