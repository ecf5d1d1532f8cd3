-- An entry that is laid out with what is kept inside it, from the steps that lay it out.
use Rattle.kdl_layout.proofs.Common.{◌≡◌, IfOk, KdlEntryFormat, entry_format_tree, ◌&&◌, and_parts, not, is_some, only_spaces, bare_inside, NothingInside, KeptPlace, KeptPlaceIf, KeptTypeTextsIf, entry_type_texts, Bool, true, false, [], ◌∷◌, ◌++◌, refl, sym, ap, subst, ◌∙◌, Option, Some, None, option_map, Result, Ok, Err, Text, print_value, IsIdentifierText, Identifier, EntryFormat, Entry, unspelled, cleared, autoformatted, autoformatted_format, Keeping, Settings, keeps_texts, with_keep_if, is_kept_format, plain_format, KeptSpelling, IsRespelledIf, text_before, KeepsForm, KeptForm, HasSpellings, HasSpellingsIf, HasSpellingsUnless, IsRespelledEntry, IsSpelledEntry, following, put_format, Keeps, autoformatted_but, without_value, HasSpelling, KeepsValue}
use Rattle.std.proofs.Common.{inl, inr}
use Rattle.std.specs.Prelude.{OnOk}
use Rattle.kdl_layout.specs.Internal.KeptTexts.{HasForm, HasOtherForm, KeepsInside}
use Rattle.kdl_layout.specs.Internal.Names.{KeepsName, IsLaid}
use Rattle.kdl_layout.specs.declared.names.SpellingRule.{SpellingRule}
use Rattle.kdl_layout.proofs.Texts.{no_format}
use Rattle.kdl_layout.proofs.Respelling.Kept.{each_place}
use Rattle.kdl_layout.proofs.Respelling.Written.{leading_is, after_format, unflagged_same, unformed, after_unformed}

-- whether the spelling of a name is kept
pub name_kept : (i : Identifier) (t : Text) → Some t ≡ i.repr → IsIdentifierText t i.value → KeepsName true i SpellingRule.Kept
name_kept i t e h = (Some t, subst (λ (o : Option Text). KeptSpelling i.value o (Some t)) e (KeptSpelling.kept h), ap (λ (o : Option Text). record i { repr = o }) (sym e))

pub name_removed : (i : Identifier) (t : Text) → Some t ≡ i.repr → (IsIdentifierText t i.value → ⊥) → KeepsName true i SpellingRule.Removed
name_removed i t e h = (None, subst (λ (o : Option Text). KeptSpelling i.value o None) e (KeptSpelling.other h), refl)

pub no_name_kept : (i : Identifier) → None ≡ i.repr → KeepsName true i SpellingRule.Removed
no_name_kept i e = (None, subst (λ (o : Option Text). KeptSpelling i.value o None) e KeptSpelling.unspelled, refl)

-- an entry with another format has the same parts
put_unformed : (o : Option EntryFormat) (e : Entry) → unformed (put_format o e) ≡ unformed e
put_unformed None e = refl
put_unformed (Some f) e = refl

-- an entry whose spelling was taken out
pub taken_same : (key ty : SpellingRule) (e : Entry) → is_kept_format e.format ≡ false → autoformatted_but key ty (record e { format = option_map without_value e.format }) ≡ autoformatted_but key ty e
taken_same key ty e n = ap (λ (o : Option EntryFormat). record (autoformatted_but key ty e) { format = o }) (go e.format n ∙ sym (no_format e.format n))
  where
    go : (o : Option EntryFormat) → is_kept_format o ≡ false → autoformatted_format (option_map without_value o) ≡ None
    go None n = refl
    go (Some f) n = rw n refl

module _ (s : Settings) (e : Entry) (t : Text) (key ty : SpellingRule) (unflagged : is_kept_format e.format ≡ false) where
  abbrev mid : Entry
  mid = following t (autoformatted e)

  mid_format : mid.format ≡ plain_format t e.value
  mid_format = after_format t (autoformatted e) (no_format e.format unflagged)

  but_format : (y : Entry) → y ≡ autoformatted_but key ty e → y.format ≡ None
  but_format y a = ap (λ (x : Entry). x.format) a ∙ no_format e.format unflagged

  -- an entry with a format or without one
  put_form : (o : Option EntryFormat) (y : Entry) → y.format ≡ None → (put_format o y).format ≡ o
  put_form None y n = n
  put_form (Some g) y n = refl

  module _ (keep : Bool) where
    pub spelled_entry : (y e' : Entry) (o : Option EntryFormat) → Keeps keep e.name key → Keeps keep e.ty ty → y ≡ autoformatted_but key ty e → e' ≡ put_format o y → KeptForm keep s e e.format mid.format e'.format → HasSpellings keep s e mid e'
    spelled_entry y e' o k h a b v =
        let p : unformed e' ≡ unformed (autoformatted_but key ty e) = ap unformed b ∙ put_unformed o y ∙ ap unformed a in
        let q : unformed mid ≡ unformed (autoformatted e) = after_unformed t (autoformatted e) in
        record {
          ty = subst (λ (x : Entry). IsRespelledIf keep e.ty x.ty e'.ty) (sym q) (subst (λ (x : Entry). IsRespelledIf keep e.ty (option_map unspelled e.ty) x.ty) (sym p) h);
          name = subst (λ (x : Entry). IsRespelledIf keep e.name x.name e'.name) (sym q) (subst (λ (x : Entry). IsRespelledIf keep e.name (option_map unspelled e.name) x.name) (sym p) k);
          format = v;
          value = ap (λ (x : Entry). x.value) p ∙ sym (ap (λ (x : Entry). x.value) q);
          span = ap (λ (x : Entry). x.span) p ∙ sym (ap (λ (x : Entry). x.span) q);
        }

    -- with its spelling
    taken_form : (f o q m : Option EntryFormat) → m ≡ plain_format t e.value → keep ≡ true → HasSpelling e.value f → HasForm keep s e (t ++ (32 ∷ [])) f o → q ≡ o → KeptForm keep s e f m q
    taken_form None o q m a x h k c = absurd h
    taken_form (Some f) None q m a x h k c = absurd k
    taken_form (Some f) (Some g) q m a x h k c =
        let before : t ++ (32 ∷ []) ≡ text_before m = sym (leading_is t e.value) ∙ ap text_before (sym a) in
        subst (λ (z : Option EntryFormat). KeptForm keep s e (Some f) m z) (sym c) (KeptForm.kept x h (subst (λ (z : Text). KeepsForm keep s e f z f.value_repr g) before k))

    pub spelled_form : (y e' : Entry) (o q : Option EntryFormat) → KeepsValue keep e.value e.format true → y ≡ autoformatted_but key ty e → e' ≡ put_format o y → o ≡ q → HasForm keep s e (t ++ (32 ∷ [])) e.format q
        → KeptForm keep s e e.format mid.format e'.format
    spelled_form y e' o q h a c same d =
        let k = subst (HasForm keep s e (t ++ (32 ∷ [])) e.format) (sym same) d in
        taken_form e.format o e'.format mid.format mid_format h.0 h.1 k (ap (λ (x : Entry). x.format) c ∙ put_form o y (but_format y a))

    -- without it
    other_form : (f o q m : Option EntryFormat) → m ≡ plain_format t e.value → KeepsValue keep e.value f false → HasOtherForm keep s e t f o → q ≡ o → KeptForm keep s e f m q
    other_form None o q m a h k c = subst (λ (z : Option EntryFormat). KeptForm keep s e None m z) (sym (c ∙ k ∙ sym a)) KeptForm.formless
    other_form (Some f) o q m a h (inl (k, i)) c = subst (λ (z : Option EntryFormat). KeptForm keep s e (Some f) m z) (sym (c ∙ i ∙ sym a)) (KeptForm.bare h k)
    other_form (Some f) o q m a h (inr (g, k, w, i)) c =
        let before : t ++ (32 ∷ []) ≡ text_before m = sym (leading_is t e.value) ∙ ap text_before (sym a) in
        subst (λ (z : Option EntryFormat). KeptForm keep s e (Some f) m z) (sym (c ∙ i)) (KeptForm.other h (subst (λ (z : Text). KeepsForm keep s e f z (print_value e.value) g) before k) w)

    pub respelled_form : (y e' : Entry) (o q : Option EntryFormat) → KeepsValue keep e.value e.format false → y ≡ autoformatted_but key ty e → e' ≡ put_format o y → o ≡ q → HasOtherForm keep s e t e.format q
        → KeptForm keep s e e.format mid.format e'.format
    respelled_form y e' o q h a c same d =
        let k = subst (HasOtherForm keep s e t e.format) (sym same) d in
        other_form e.format o e'.format mid.format mid_format h k (ap (λ (x : Entry). x.format) c ∙ put_form o y (but_format y a))

-- a format with what is kept inside: nothing, or with the texts before it and of its value
bare_place : (b : Bool) (t r : Text) → KeptPlaceIf b t r → only_spaces r ≡ true → r ≡ []
bare_place false t r k h = k
bare_place true t _ (KeptPlace.kept c) h = let z : true ≡ false = sym h ∙ c.1 in absurd cc
bare_place true t _ (KeptPlace.other n) h = refl

pub nothing_kept : (s : Settings) (e : Entry) (f g : EntryFormat) → KeepsInside s e f g → bare_inside g ≡ true → NothingInside s e f
nothing_kept s e f g k h =
    let (w0, x0) = and_parts (only_spaces g.before_ty_name && only_spaces g.after_ty_name && only_spaces g.after_ty && only_spaces g.after_key) (only_spaces g.after_eq) h in
    let (w1, x1) = and_parts (only_spaces g.before_ty_name && only_spaces g.after_ty_name && only_spaces g.after_ty) (only_spaces g.after_key) w0 in
    let (w2, x2) = and_parts (only_spaces g.before_ty_name && only_spaces g.after_ty_name) (only_spaces g.after_ty) w1 in
    let (x4, x3) = and_parts (only_spaces g.before_ty_name) (only_spaces g.after_ty_name) w2 in
    let types = each_place (not s.no_comments && is_some e.ty) (entry_type_texts f) (entry_type_texts g) k.ty in
    let a = bare_place (not s.no_comments && is_some e.ty) f.before_ty_name g.before_ty_name types.0 x4 in
    let b = bare_place (not s.no_comments && is_some e.ty) f.after_ty_name g.after_ty_name types.1 x3 in
    let c = bare_place (not s.no_comments && is_some e.ty) f.after_ty g.after_ty types.2 x2 in
    let d = bare_place (not s.no_comments && is_some e.name) f.after_key g.after_key k.after_key x1 in
    let q = bare_place (not s.no_comments && is_some e.name) f.after_eq g.after_eq k.after_eq x0 in
    record {
      ty = subst (KeptTypeTextsIf (not s.no_comments && is_some e.ty) (entry_type_texts f)) (λ i. record { before_name = a i; after_name = b i; after = c i }) k.ty;
      after_key = subst (KeptPlaceIf (not s.no_comments && is_some e.name) f.after_key) d k.after_key;
      after_eq = subst (KeptPlaceIf (not s.no_comments && is_some e.name) f.after_eq) q k.after_eq;
    }

-- an entry that was flagged or not, and laid out with what is kept inside it
spelled_there : (keep : Bool) (s : Settings) (e m e' : Entry) → is_kept_format (with_keep_if s.entry_autoformate_keep e).format ≡ false → HasSpellings keep s (with_keep_if s.entry_autoformate_keep e) m e' → HasSpellingsIf true keep s e m e'
spelled_there keep s e m e' n h = subst (λ (b : Bool). HasSpellingsUnless b keep s e m e') (sym n) (subst (λ (x : Entry). HasSpellings keep s x m e') (unflagged_same s.entry_autoformate_keep e n) h)

pub spelled_is : {A E : Type 0} (r : Result A E) (keep : Keeping) (s : Settings) (e x e' : Entry) → keeps_texts keep ≡ true → x ≡ with_keep_if s.entry_autoformate_keep e → false ≡ is_kept_format x.format
    → OnOk r ((m : Entry) × IsLaid s x m × HasSpellings keep.spelling s x m e') → OnOk r (IsSpelledEntry keep s e e')
spelled_is (Err z) keep s e x e' k a n h = h
spelled_is (Ok z) keep s e x e' k a n (m, f, h) =
    let n' : is_kept_format (with_keep_if s.entry_autoformate_keep e).format ≡ false = ap (λ (y : Entry). is_kept_format y.format) (sym a) ∙ sym n in
    let h' = subst (λ (y : Entry). HasSpellings keep.spelling s y m e') a h in
    (m, subst (λ (y : Entry). IsLaid s y m) a f, subst (λ (b : Bool). HasSpellingsIf b keep.spelling s e m e') (sym k) (spelled_there keep.spelling s e m e' n' h'))

-- or laid out without that
off_if : (b keep : Bool) (s : Settings) (e m : Entry) → b ≡ false → HasSpellingsIf b keep s e m m
off_if false keep s e m k = refl
off_if true keep s e m k = absurd cc

pub off_respelled : (keep : Keeping) (s : Settings) (e m : Entry) → keeps_texts keep ≡ false → IsRespelledEntry keep s e m m
off_respelled keep s e m k = off_if (keeps_texts keep) keep.spelling s e m k

flag_if : (b keep : Bool) (s : Settings) (e m x : Entry) → x ≡ with_keep_if s.entry_autoformate_keep e → true ≡ is_kept_format x.format → HasSpellingsIf b keep s e m m
flag_if false keep s e m x a n = refl
flag_if true keep s e m x a n = subst (λ (b : Bool). HasSpellingsUnless b keep s e m m) (n ∙ ap (λ (y : Entry). is_kept_format y.format) a) refl

pub flag_respelled : (keep : Keeping) (s : Settings) (e m x : Entry) → x ≡ with_keep_if s.entry_autoformate_keep e → true ≡ is_kept_format x.format → IsRespelledEntry keep s e m m
flag_respelled keep s e m x a n = flag_if (keeps_texts keep) keep.spelling s e m x a n

pub respelled_is : (keep : Keeping) (s : Settings) (e x e' : Entry) → x ≡ with_keep_if s.entry_autoformate_keep e → IsRespelledEntry keep s e e' e' → IsLaid s x e' → IsSpelledEntry keep s e e'
respelled_is keep s e x e' a k h = (e', subst (λ (y : Entry). IsLaid s y e') a h, k)

-- what an entry leaves as it was
pub flag_cleared : (b : Bool) (e : Entry) → cleared (with_keep_if b e) ≡ cleared e
flag_cleared false e = refl
flag_cleared true e = refl

-- the format of an entry of which nothing is kept inside
pub other_bare : {E : Type 0} (r : Result (Option KdlEntryFormat) E) (keep : Bool) (s : Settings) (e : Entry) (t : Text) (f g : EntryFormat) → e.format ≡ Some f → KeepsInside s e f g → bare_inside g ≡ true → IfOk r (λ o. option_map entry_format_tree o ≡ plain_format t e.value)
    → IfOk r (λ o. HasOtherForm keep s e t e.format (option_map entry_format_tree o))
other_bare (Err z) keep s e t f g q k w h = h
other_bare (Ok o) keep s e t f g q k w h = subst (λ (x : Option EntryFormat). HasOtherForm keep s e t x (option_map entry_format_tree o)) (sym q) (inl (nothing_kept s e f g k w, h))
