-- A second layout that keeps spellings or comments inside entries changes nothing: layout does not look at them, and what was put back is put back again.
use Rattle.kdl_layout.proofs.Common.{◌≡◌, ℕ, Bool, true, false, List, [], ◌∷◌, ◌++◌, refl, sym, ap, subst, ◌∙◌, Option, Some, None, option_map, list_all, ◌&&◌, ◌||◌, not, is_some, Text, Value, print_value, Identifier, EntryFormat, empty_format, Entry, unspelled, cleared, autoformatted, NodeFormat, Head, Node, node, Children, children, Document, document, Nodes, first, before_entry, PlaceItems, tail, Settings, with_keep_if, Keeping, keeps_texts, or_empty, or_empty_document, EntriesKeepNone, NodeKeepsNone, ChildrenKeepNone, DocumentKeepsNone, NodesKeepNone, ItemsIn, WrittenUnless, KeptBefore, is_kept_format, entry_leading, only_spaces, KeptSpelling, IsRespelled, IsRespelledIf, IsSpelling, text_before, KeptLeading, KeptLeadingIf, NothingInside, bare_inside, plain_format, KeptPlaceIf, TypeTexts, KeptTypeTexts, KeptTypeTextsIf, KeepsForm, KeptForm, entry_type_texts, node_type_texts, with_type_texts, IsTypedFormat, HasSpellings, HasSpellingsIf, HasSpellingsUnless, IsRespelledEntry, AreRespelledEntries, IsSpacedLine, following, IsFormattedEntry, AreFormattedEntries, has_block, Before, is_space}
use Rattle.kdl_entry.specs.Tree.{unspelled_names}
use Rattle.kdl_layout.proofs.Texts.{no_format}
use Rattle.kdl_layout.proofs.Rewriting.PlacesAgain.{tail_spaced}
use Rattle.kdl_layout.proofs.Formatting.FormattedUnique.{entry_keeps_none, cleared_after}
use Rattle.kdl_layout.proofs.Formatting.SpacedUnique.{tail_det}
use Rattle.kdl_layout.proofs.Keeping.KeptReads.{kept_bare, kept_empty, spaces_in, none_before, before_entry_stays}
use Rattle.kdl_layout.proofs.Respelling.Leaves.{cleared_same, entry_flag, unspelled_same, unspelled_same_if}
use Rattle.kdl_layout.proofs.Respelling.Kept.{OnlySpaces, leading_again_if, no_texts, place_again_if, place_bare_if, types_again_if, types_bare_if}
use Rattle.kdl_layout.proofs.Respelling.Written.{leading_is, name_is, ty_is, value_is, format_is}
use Rattle.kdl_layout.proofs.Respelling.Spelled.{SpelledHead, SpelledNode, spelled, SpelledChildren, blockless, spelled_block, SpelledNodes, nodeless, one_more, SpelledDocument, same_block}
use Rattle.kdl_layout.proofs.Spacing.TextsAgain.{IsAgain, line_stays, node_passes, content_stays, braced_stays}
use Rattle.kdl_layout.proofs.Formatting.PrintsCanonical.{unspelled_twice}

-- an entry that is not flagged has no format once it is laid out, but for what is kept before it
auto_cleared : (e : Entry) → is_kept_format e.format ≡ false → autoformatted e ≡ cleared e
auto_cleared e n = ap (λ (o : Option EntryFormat). record (unspelled_names e) { format = o }) (no_format e.format n)

pub cleared_again : (e : Entry) → cleared (cleared e) ≡ cleared e
cleared_again e = rw (unspelled_twice e.name, unspelled_twice e.ty) refl

text_stays : (b : Bool) (e : Entry) (q t u : Text) → WrittenUnless b (PlaceItems (before_entry false) q) tail t → WrittenUnless b (PlaceItems (before_entry false) (entry_leading (following t (cleared e)).format)) tail u → u ≡ t
text_stays b e q [] u k m = none_before b u m
text_stays b e q (c ∷ t) u k m = before_entry_stays b q (c ∷ t) u k m

-- one space before an entry holds no items
blank_kept : (b : Bool) → WrittenUnless b (PlaceItems (before_entry false) (32 ∷ [])) tail []
unfolding is_space
blank_kept b = kept_empty b (PlaceItems (before_entry false) (32 ∷ [])) tail [] (spaces_in (before_entry false) (32 ∷ []) refl) refl refl

-- the same of the text that layout leaves before an entry
before_plain : (s : Settings) (v : Value) (t u : Text) → WrittenUnless s.no_comments (PlaceItems (before_entry false) (text_before (plain_format t v))) tail u → KeptBefore s (plain_format t v) u
before_plain s v [] u k = kept_bare s.no_comments u (tail_det s (before_entry false) (32 ∷ []) u [] k (blank_kept s.no_comments))
before_plain s v (c ∷ t) u k = k

-- what is kept of comments is kept again after it is written
tail_again : (b : Bool) (q t : Text) → WrittenUnless b (PlaceItems (before_entry false) q) tail t → WrittenUnless b (PlaceItems (before_entry false) (t ++ (32 ∷ []))) tail t
tail_again true q t k = k
tail_again false q t (is, ItemsIn.items d, e) = (is, ItemsIn.items (rw e (tail_spaced d)), e)
tail_again false q t (_, ItemsIn.no_items n, e) = rw e (blank_kept false)

-- layout looks at the text before an entry, which is kept of it, with its form or without
formed_unlooked : (keep : Bool) (s : Settings) (e : Entry) (t u value : Text) (f g : EntryFormat) (p : Option EntryFormat) → is_kept_format (Some f) ≡ false → KeptBefore s (Some f) t → p ≡ plain_format t e.value → KeepsForm keep s e f (text_before p) value g
    → KeptBefore s (Some g) u → KeptBefore s p u
formed_unlooked keep s e t u value f g p n h i k b =
    subst (λ (x : Option EntryFormat). KeptBefore s x u) (sym i) (before_plain s e.value t u (leads keep g.leading k.leading (subst (λ (z : Bool). WrittenUnless (z || s.no_comments) (PlaceItems (before_entry false) g.leading) tail u) k.autoformat_keep b)))
  where
    old : WrittenUnless s.no_comments (PlaceItems (before_entry false) f.leading) tail t
    old = subst (λ (z : Bool). WrittenUnless (z || s.no_comments) (PlaceItems (before_entry false) f.leading) tail t) n h

    after : text_before (plain_format t e.value) ≡ t ++ (32 ∷ [])
    after = leading_is t e.value

    plain : WrittenUnless s.no_comments (PlaceItems (before_entry false) (text_before p)) tail u → WrittenUnless s.no_comments (PlaceItems (before_entry false) (text_before (plain_format t e.value))) tail u
    plain w = subst (λ (x : Option EntryFormat). WrittenUnless s.no_comments (PlaceItems (before_entry false) (text_before x)) tail u) i w

    go : {r : Text} → KeptLeading s f.leading (text_before p) r → WrittenUnless s.no_comments (PlaceItems (before_entry false) r) tail u → WrittenUnless s.no_comments (PlaceItems (before_entry false) (text_before (plain_format t e.value))) tail u
    go (KeptLeading.continued c) w =
        subst (λ (z : Text). WrittenUnless s.no_comments (PlaceItems (before_entry false) z) tail u) (sym after)
        (subst (λ (z : Text). WrittenUnless s.no_comments (PlaceItems (before_entry false) (t ++ (32 ∷ []))) tail z) (tail_det s (before_entry false) f.leading t u old w) (tail_again s.no_comments f.leading t old))
    go (KeptLeading.other m) w = plain w

    leads : (keep : Bool) (r : Text) → KeptLeadingIf keep s f.leading (text_before p) r → WrittenUnless s.no_comments (PlaceItems (before_entry false) r) tail u
        → WrittenUnless s.no_comments (PlaceItems (before_entry false) (text_before (plain_format t e.value))) tail u
    leads true r l w = go l w
    leads false r l w = plain (subst (λ (z : Text). WrittenUnless s.no_comments (PlaceItems (before_entry false) z) tail u) l w)

before_unlooked : (keep : Bool) (s : Settings) (e : Entry) (t u : Text) (o p q : Option EntryFormat) → is_kept_format o ≡ false → KeptBefore s o t → p ≡ plain_format t e.value → KeptForm keep s e o p q → KeptBefore s q u → KeptBefore s p u
before_unlooked keep s e t u _ p _ n h i (KeptForm.kept {f = f} {g = g} x d k) b = formed_unlooked keep s e t u f.value_repr f g p n h i k b
before_unlooked keep s e t u _ p _ n h i (KeptForm.bare m k) b = b
before_unlooked keep s e t u _ p _ n h i (KeptForm.other {f = f} {g = g} m k w) b = formed_unlooked keep s e t u (print_value e.value) f g p n h i k b
before_unlooked keep s e t u _ p _ n h i KeptForm.formless b = b

-- what is put back is put back again
spelling_again : (s : Text) (o r q : Option Text) → KeptSpelling s o r → KeptSpelling s r q → q ≡ r
spelling_again s _ _ _ (KeptSpelling.kept d) (KeptSpelling.kept e) = refl
spelling_again s _ _ _ (KeptSpelling.kept d) (KeptSpelling.other n) = absurd (n d)
spelling_again s _ _ _ (KeptSpelling.other n) KeptSpelling.unspelled = refl
spelling_again s _ _ _ KeptSpelling.unspelled KeptSpelling.unspelled = refl

name_again : (keep : Bool) (i m x y : Identifier) → m ≡ unspelled i → IsRespelled keep i m x → IsRespelled keep x m y → y ≡ x
name_again false i m x y e a b = b ∙ sym a
name_again true i m x y e (r, k, a) (q, l, b) =
    let value : x.value ≡ i.value = ap (λ (z : Identifier). z.value) (a ∙ ap (λ (z : Identifier). record z { repr = r }) e) in
    let repr : x.repr ≡ r = ap (λ (z : Identifier). z.repr) a in
    let l' = subst (λ (z : Text). KeptSpelling z r q) value (subst (λ (z : Option Text). KeptSpelling x.value z q) repr l) in
    b ∙ ap (λ (z : Option Text). record m { repr = z }) (spelling_again i.value i.repr r q k l') ∙ sym a

name_again_if : (keep : Bool) (o m x y : Option Identifier) → m ≡ option_map unspelled o → IsRespelledIf keep o m x → IsRespelledIf keep x m y → y ≡ x
name_again_if keep None None None None e a b = refl
name_again_if keep (Some i) (Some m) (Some x) (Some y) e a b = let h : m ≡ unspelled i = cc in ap Some (name_again keep i m x y h a b)
name_again_if keep _ _ _ _ e a b = absurd assumption

-- an entry with the same value, and with a type and a key where this one has them
record IsLike (e x : Entry) : Type 0 where
  value : x.value ≡ e.value
  ty : is_some x.ty ≡ is_some e.ty
  name : is_some x.name ≡ is_some e.name

some_again : (keep : Bool) (o m x : Option Identifier) → IsRespelledIf keep o m x → is_some x ≡ is_some o
some_again keep None None None r = refl
some_again keep (Some i) (Some m) (Some x) r = refl
some_again keep _ _ _ r = absurd assumption

form_same : (f g : EntryFormat) → f.value_repr ≡ g.value_repr → f.leading ≡ g.leading → f.trailing ≡ g.trailing → entry_type_texts f ≡ entry_type_texts g → f.after_key ≡ g.after_key → f.after_eq ≡ g.after_eq
    → f.autoformat_keep ≡ g.autoformat_keep → f ≡ g
form_same f g value leading trailing types after_key after_eq flag = λ i. record {
  value_repr = value i;
  leading = leading i;
  trailing = trailing i;
  after_ty = (types i).after;
  before_ty_name = (types i).before_name;
  after_ty_name = (types i).after_name;
  after_key = after_key i;
  after_eq = after_eq i;
  autoformat_keep = flag i;
}

keeps_again : (keep : Bool) (s : Settings) (e x : Entry) (f g h : EntryFormat) (laid v w : Text) → IsLike e x → KeepsForm keep s e f laid v g → KeepsForm keep s x g laid w h → w ≡ g.value_repr → h ≡ g
keeps_again keep s e x f g h laid v w like a b same =
    let out = not s.no_comments in
    let leading = leading_again_if keep s f.leading laid g.leading h.leading a.leading b.leading in
    let types = types_again_if (out && is_some e.ty) (entry_type_texts f) (entry_type_texts g) (entry_type_texts h) a.ty (subst (λ (z : Bool). KeptTypeTextsIf (out && z) (entry_type_texts g) (entry_type_texts h)) like.ty b.ty) in
    let after_key = place_again_if (out && is_some e.name) f.after_key g.after_key h.after_key a.after_key (subst (λ (z : Bool). KeptPlaceIf (out && z) g.after_key h.after_key) like.name b.after_key) in
    let after_eq = place_again_if (out && is_some e.name) f.after_eq g.after_eq h.after_eq a.after_eq (subst (λ (z : Bool). KeptPlaceIf (out && z) g.after_eq h.after_eq) like.name b.after_eq) in
    form_same h g (b.value_repr ∙ same) leading (b.trailing ∙ sym a.trailing) types after_key after_eq (b.autoformat_keep ∙ sym a.autoformat_keep)

-- the format that layout leaves has no text inside, and so is kept
plain_keeps : (keep : Bool) (s : Settings) (x : Entry) (f g : EntryFormat) (v : Text) → f ≡ record empty_format { leading = f.leading; value_repr = f.value_repr } → v ≡ f.value_repr → KeepsForm keep s x f f.leading v g → g ≡ f
plain_keeps keep s x f g v e same k =
    let out = not s.no_comments in
    let types = types_bare_if (out && is_some x.ty) (entry_type_texts f) (entry_type_texts g) bare k.ty in
    let after_key = place_bare_if (out && is_some x.name) f.after_key g.after_key (ap (λ (z : EntryFormat). only_spaces z.after_key) e) k.after_key in
    let after_eq = place_bare_if (out && is_some x.name) f.after_eq g.after_eq (ap (λ (z : EntryFormat). only_spaces z.after_eq) e) k.after_eq in
    form_same g (record empty_format { leading = f.leading; value_repr = f.value_repr }) (k.value_repr ∙ same) (leading_if keep k.leading) k.trailing types after_key after_eq k.autoformat_keep ∙ sym e
  where
    bare : OnlySpaces (entry_type_texts f)
    bare = record { before_name = ap (λ (z : EntryFormat). only_spaces z.before_ty_name) e; after_name = ap (λ (z : EntryFormat). only_spaces z.after_ty_name) e; after = ap (λ (z : EntryFormat). only_spaces z.after_ty) e }

    same_leading : {r : Text} → KeptLeading s f.leading f.leading r → r ≡ f.leading
    same_leading (KeptLeading.continued c) = refl
    same_leading (KeptLeading.other n) = refl

    leading_if : (keep : Bool) {r : Text} → KeptLeadingIf keep s f.leading f.leading r → r ≡ f.leading
    leading_if true l = same_leading l
    leading_if false l = l

plain_again : (keep : Bool) (s : Settings) (x : Entry) (t : Text) (v : Value) (p q : Option EntryFormat) → x.value ≡ v → p ≡ plain_format t v → KeptForm keep s x p p q → q ≡ p
plain_again keep s x [] v _ _ u e (KeptForm.kept y d k) = absurd cc
plain_again keep s x t v _ _ u e (KeptForm.bare n k) = refl
plain_again keep s x [] v _ _ u e (KeptForm.other n k w) = absurd cc
plain_again keep s x (c ∷ t) v _ _ u e (KeptForm.kept {f = f} {g = g} y d k) =
    let h : f ≡ record empty_format { leading = (c ∷ t) ++ (32 ∷ []); value_repr = print_value v } = cc in
    let h' : f ≡ record empty_format { leading = f.leading; value_repr = f.value_repr } = h ∙ sym (ap (λ (z : EntryFormat). record empty_format { leading = z.leading; value_repr = z.value_repr }) h) in
    ap Some (plain_keeps keep s x f g f.value_repr h' refl k)
plain_again keep s x (c ∷ t) v _ _ u e (KeptForm.other {f = f} {g = g} n k w) =
    let h : f ≡ record empty_format { leading = (c ∷ t) ++ (32 ∷ []); value_repr = print_value v } = cc in
    let h' : f ≡ record empty_format { leading = f.leading; value_repr = f.value_repr } = h ∙ sym (ap (λ (z : EntryFormat). record empty_format { leading = z.leading; value_repr = z.value_repr }) h) in
    let same : g ≡ f = plain_keeps keep s x f g (print_value x.value) h' (ap print_value u ∙ sym (ap (λ (z : EntryFormat). z.value_repr) h)) k in
    let bare : bare_inside g ≡ true = ap bare_inside (same ∙ h) in
    let z : true ≡ false = sym bare ∙ w in
    absurd cc
plain_again keep s x t v _ _ u e KeptForm.formless = refl

-- a form of which nothing is kept again has nothing inside
bare_again : (keep : Bool) (s : Settings) (e x : Entry) (f g : EntryFormat) (laid v : Text) → IsLike e x → KeepsForm keep s e f laid v g → NothingInside s x g → bare_inside g ≡ true
bare_again keep s e x f g laid v like a b =
    let out = not s.no_comments in
    let types = types_again_if (out && is_some e.ty) (entry_type_texts f) (entry_type_texts g) no_texts a.ty (subst (λ (z : Bool). KeptTypeTextsIf (out && z) (entry_type_texts g) no_texts) like.ty b.ty) in
    let before_name : g.before_ty_name ≡ [] = sym (ap (λ (z : TypeTexts). z.before_name) types) in
    let after_name : g.after_ty_name ≡ [] = sym (ap (λ (z : TypeTexts). z.after_name) types) in
    let after : g.after_ty ≡ [] = sym (ap (λ (z : TypeTexts). z.after) types) in
    let after_key : g.after_key ≡ [] = sym (place_again_if (out && is_some e.name) f.after_key g.after_key [] a.after_key (subst (λ (z : Bool). KeptPlaceIf (out && z) g.after_key []) like.name b.after_key)) in
    let after_eq : g.after_eq ≡ [] = sym (place_again_if (out && is_some e.name) f.after_eq g.after_eq [] a.after_eq (subst (λ (z : Bool). KeptPlaceIf (out && z) g.after_eq []) like.name b.after_eq)) in
    rw (before_name, after_name, after, after_key, after_eq) refl

format_again : (keep : Bool) (s : Settings) (e x : Entry) (t : Text) (o p q r : Option EntryFormat) → IsLike e x → p ≡ plain_format t e.value → KeptForm keep s e o p q → KeptForm keep s x q p r → r ≡ q
format_again keep s e x t _ p _ _ like h (KeptForm.kept {f = f} {g = g} y d k) (KeptForm.kept {g = g'} z b j) = ap Some (keeps_again keep s e x f g g' (text_before p) f.value_repr g.value_repr like k j refl)
format_again keep s e x t _ p _ _ like h (KeptForm.kept {f = f} {g = g} y d k) (KeptForm.bare n j) = absurd (n y (subst (λ (v : Value). IsSpelling v g.value_repr) (sym like.value) (subst (IsSpelling e.value) (sym k.value_repr) d)))
format_again keep s e x t _ p _ _ like h (KeptForm.kept {f = f} {g = g} y d k) (KeptForm.other n j w) = absurd (n y (subst (λ (v : Value). IsSpelling v g.value_repr) (sym like.value) (subst (IsSpelling e.value) (sym k.value_repr) d)))
format_again keep s e x t _ p _ r like h (KeptForm.bare n k) b = plain_again keep s x t e.value p r like.value h b
format_again keep s e x t _ p _ _ like h (KeptForm.other {f = f} {g = g} n k w) (KeptForm.kept {g = g'} y d j) = ap Some (keeps_again keep s e x f g g' (text_before p) (print_value e.value) g.value_repr like k j refl)
format_again keep s e x t _ p _ _ like h (KeptForm.other {f = f} {g = g} n k w) (KeptForm.bare m j) = let z : true ≡ false = sym (bare_again keep s e x f g (text_before p) (print_value e.value) like k j) ∙ w in absurd cc
format_again keep s e x t _ p _ _ like h (KeptForm.other {f = f} {g = g} n k w) (KeptForm.other {g = g'} m j v) =
    ap Some (keeps_again keep s e x f g g' (text_before p) (print_value e.value) (print_value x.value) like k j (ap print_value like.value ∙ sym k.value_repr))
format_again keep s e x t _ p _ r like h KeptForm.formless b = plain_again keep s x t e.value p r like.value h b

-- layout does not look at the texts around the type of a node
typed_spaced : (number : ℕ) (s : Settings) (level : ℕ) (has : Bool) (b : Before) (c : Bool) (f : NodeFormat) (m x z : Option NodeFormat) → IsTypedFormat c f m x → IsSpacedLine number s level has b (or_empty x) z → IsSpacedLine number s level has b (or_empty m) z
typed_spaced number s level has b false f m x z h p = subst (λ (y : Option NodeFormat). IsSpacedLine number s level has b (or_empty y) z) h p
typed_spaced number s level has b true f m x z (t, k, h) p = go m (subst (λ (y : Option NodeFormat). IsSpacedLine number s level has b (or_empty y) z) h p)
  where
    go : (m : Option NodeFormat) → IsSpacedLine number s level has b (or_empty (option_map (with_type_texts t) m)) z → IsSpacedLine number s level has b (or_empty m) z
    go None p = p
    go (Some g) (k, c, e) = (
      k,
      record { lines = c.lines; at_node = c.at_node; after_it = c.after_it; leading = c.leading; before = c.before; before_block = c.before_block; last = c.last; end = c.end; following = c.following },
      e,
    )

typed_again : (c : Bool) (f : NodeFormat) (m x y : Option NodeFormat) → IsTypedFormat c f m x → IsTypedFormat c (or_empty x) m y → y ≡ x
typed_again false f m x y a b = b ∙ sym a
typed_again true f None x y (t, k, h) (u, j, i) = i ∙ sym h
typed_again true f (Some g) x y (t, k, h) (u, j, i) =
    let same : node_type_texts (or_empty x) ≡ t = ap (λ (z : Option NodeFormat). node_type_texts (or_empty z)) h in
    i ∙ ap (λ (z : TypeTexts). Some (with_type_texts z g)) (types_again_if true (node_type_texts f) t u k (subst (λ (z : TypeTexts). KeptTypeTexts z u) same j)) ∙ sym h

module _ (s : Settings) (no_keep : s.entry_autoformate_keep ≡ false) where
  unflagged : (e : Entry) → with_keep_if s.entry_autoformate_keep e ≡ e
  unflagged e = ap (λ (b : Bool). with_keep_if b e) no_keep

  -- an entry that is laid out: what it is without spellings
  look : (e m : Entry) → IsFormattedEntry s e m → (t : Text) × KeptBefore s e.format t × (m ≡ following t (autoformatted e))
  look e m (t, k, q) = (t, subst (λ (x : Entry). KeptBefore s x.format t) (unflagged e) k, q ∙ ap (λ (x : Entry). following t (autoformatted x)) (unflagged e))

  looked : (e m : Entry) (t : Text) → KeptBefore s e.format t → m ≡ following t (autoformatted e) → IsFormattedEntry s e m
  looked e m t k q = (t, subst (λ (x : Entry). KeptBefore s x.format t) (sym (unflagged e)) k, q ∙ ap (λ (x : Entry). following t (autoformatted x)) (sym (unflagged e)))

  -- the text that is kept before an entry is kept again
  before_stays : (e m z : Entry) → IsFormattedEntry s e m → is_kept_format e.format ≡ false → IsFormattedEntry s m z → z ≡ m
  before_stays e m z f n g =
      let (t, k, q) = look e m f in
      let (u, j, r) = look m z g in
      let p : m ≡ following t (cleared e) = q ∙ ap (following t) (auto_cleared e n) in
      let old = subst (λ (b : Bool). WrittenUnless (b || s.no_comments) (PlaceItems (before_entry false) (entry_leading e.format)) tail t) n k in
      let new = subst (λ (b : Bool). WrittenUnless (b || s.no_comments) (PlaceItems (before_entry false) (entry_leading m.format)) tail u) (entry_keeps_none s e m f) j in
      let same = text_stays s.no_comments e (entry_leading e.format) t u old (subst (λ (x : Entry). WrittenUnless s.no_comments (PlaceItems (before_entry false) (entry_leading x.format)) tail u) p new) in
      r ∙ ap (following u) (auto_cleared m (entry_keeps_none s e m f) ∙ ap cleared p ∙ cleared_after t (cleared e) ∙ cleared_again e) ∙ ap (λ (x : Text). following x (cleared e)) same ∙ sym p

  spellings : (keep : Bool) (e m x : Entry) → is_kept_format e.format ≡ false → HasSpellingsUnless (is_kept_format (with_keep_if s.entry_autoformate_keep e).format) keep s e m x → HasSpellings keep s e m x
  spellings keep e m x n h = subst (λ (z : Bool). HasSpellingsUnless z keep s e m x) (ap (λ (y : Entry). is_kept_format y.format) (unflagged e) ∙ n) h

  -- layout does not look at spellings, and at comments inside entries
  entry_unlooked : (keep : Keeping) (e m x z : Entry) → IsFormattedEntry s e m → IsRespelledEntry keep s e m x → is_kept_format e.format ≡ false → IsFormattedEntry s x z → IsFormattedEntry s m z
  entry_unlooked keep e m x z f r n g = go (keeps_texts keep) r
    where
      go : (b : Bool) → HasSpellingsIf b keep.spelling s e m x → IsFormattedEntry s m z
      go false h = subst (λ (y : Entry). IsFormattedEntry s y z) h g
      go true h =
          let left = entry_keeps_none s e m f in
          let auto = auto_cleared x (entry_flag keep s e m x left r) ∙ cleared_same keep s e m x r ∙ sym (auto_cleared m left) in
          let (u, k, q) = look x z g in
          let (t, j, is) = look e m f in
          looked m z u (before_unlooked keep.spelling s e t u e.format m.format x.format n j (format_is e m t is n) (spellings keep.spelling e m x n h).format k) (q ∙ ap (following u) auto)

  -- what an entry got back it gets back again
  spelled_again : (keep : Bool) (e m x y : Entry) (t : Text) → m ≡ following t (autoformatted e) → is_kept_format e.format ≡ false → HasSpellings keep s e m x → HasSpellings keep s x m y → y ≡ x
  spelled_again keep e m x y t is n a b =
      let ty = name_again_if keep e.ty m.ty x.ty y.ty (ty_is e m t is) a.ty b.ty in
      let name = name_again_if keep e.name m.name x.name y.name (name_is e m t is) a.name b.name in
      let like : IsLike e x = record { value = a.value ∙ value_is e m t is; ty = some_again keep e.ty m.ty x.ty a.ty; name = some_again keep e.name m.name x.name a.name } in
      let format = format_again keep s e x t e.format m.format x.format y.format like (format_is e m t is n) a.format b.format in
      let value = b.value ∙ sym a.value in
      let span = b.span ∙ sym a.span in
      λ i. record { ty = ty i; value = value i; name = name i; format = format i; span = span i }

  respelled_again : (keep : Keeping) (e m x y : Entry) → IsFormattedEntry s e m → is_kept_format e.format ≡ false → IsRespelledEntry keep s e m x → IsRespelledEntry keep s x m y → y ≡ x
  respelled_again keep e m x y f n a b = go (keeps_texts keep) a b
    where
      go : (c : Bool) → HasSpellingsIf c keep.spelling s e m x → HasSpellingsIf c keep.spelling s x m y → y ≡ x
      go false h k = k ∙ sym h
      go true h k =
          let (t, j, is) = look e m f in
          spelled_again keep.spelling e m x y t is n (spellings keep.spelling e m x n h) (spellings keep.spelling x m y (entry_flag keep s e m x (entry_keeps_none s e m f) a) k)

  entries_again : (keep : Keeping) (es ms xs zs ys : List Entry) → AreFormattedEntries s es ms → EntriesKeepNone es → AreRespelledEntries keep s es ms xs → AreFormattedEntries s xs zs → AreRespelledEntries keep s xs zs ys → ys ≡ xs
  entries_again keep [] [] [] [] [] f o a g b = refl
  entries_again keep (e ∷ es) (m ∷ ms) (x ∷ xs) (z ∷ zs) (y ∷ ys) f o a g b =
      let same : z ≡ m = before_stays e m z f.0 o.0 (entry_unlooked keep e m x z f.0 a.0 o.0 g.0) in
      let h = respelled_again keep e m x y f.0 o.0 a.0 (subst (λ (w : Entry). IsRespelledEntry keep s x w y) same b.0) in
      let t = entries_again keep es ms xs zs ys f.1 o.1 a.1 g.1 b.1 in
      λ i. h i ∷ t i
  entries_again keep _ _ _ _ _ f o a g b = absurd assumption

module _ (s : Settings) (ok : list_all is_space s.indent ≡ true) (no_keep : s.entry_autoformate_keep ≡ false) (keep : Keeping) (compact : Bool) (number : ℕ) where
  head_again : (level : ℕ) (has : Bool) (b c : Before) (h x y : Head) → SpelledHead number s keep level has b h x → EntriesKeepNone h.entries → SpelledHead number s keep level has c x y → IsAgain number b c → y ≡ x
  head_again level has b c h x y f o g i =
      let m = f.laid in
      let z = g.laid in
      let p = f.respelled in
      let q = g.respelled in
      let typed = keeps_texts keep && not s.no_comments in
      let same_ty : z.ty ≡ m.ty = g.spaced.ty ∙ unspelled_same_if keep.spelling h.ty m.ty x.ty p.ty ∙ ap (option_map unspelled) f.spaced.ty ∙ unspelled_twice h.ty ∙ sym f.spaced.ty in
      let same_name : z.name ≡ m.name = g.spaced.name ∙ unspelled_same keep.spelling h.name m.name x.name p.name ∙ ap unspelled f.spaced.name ∙ sym f.spaced.name in
      let same_line : z.format ≡ m.format = line_stays s ok number level has b c (or_empty h.format) m.format z.format i f.spaced.format
      (typed_spaced number s level has c (typed && is_some h.ty) (or_empty h.format) m.format x.format z.format p.format g.spaced.format) in
      let ty = name_again_if keep.spelling h.ty m.ty x.ty y.ty f.spaced.ty p.ty (subst (λ (w : Option Identifier). IsRespelledIf keep.spelling x.ty w y.ty) same_ty q.ty) in
      let name = name_again keep.spelling h.name m.name x.name y.name f.spaced.name p.name (subst (λ (w : Identifier). IsRespelled keep.spelling x.name w y.name) same_name q.name) in
      let entries = entries_again s no_keep keep h.entries m.entries x.entries z.entries y.entries f.spaced.entries o p.entries g.spaced.entries q.entries in
      let format = typed_again (typed && is_some h.ty) (or_empty h.format) m.format x.format y.format p.format
      (subst (λ (w : Option NodeFormat). IsTypedFormat (typed && is_some h.ty) (or_empty x.format) w y.format) same_line
      (subst (λ (w : Bool). IsTypedFormat (typed && w) (or_empty x.format) z.format y.format) (some_again keep.spelling h.ty m.ty x.ty p.ty) q.format)) in
      let span = q.span ∙ g.spaced.span in
      λ i. record { ty = ty i; name = name i; entries = entries i; format = format i; span = span i }

  mutual
    pub node_again : {level : ℕ} {b c : Before} {n x y : Node} → SpelledNode compact number s keep level b n x → NodeKeepsNone n → SpelledNode compact number s keep level c x y → IsAgain number b c → y ≡ x
    node_again (spelled {level = level} {b = b} {h = h} {x = x} {k = k} f kids) o (spelled {b = c} {x = y} g more) i =
        let a = head_again level (has_block k) b c h x y f o.0 (subst (λ (z : Bool). SpelledHead number s keep level z c x y) (same_block kids) g) i in
        let below = children_again kids o.1 more in
        λ z. node (a z) (below z)

    children_again : {level : ℕ} {k l j : Children} → SpelledChildren compact number s keep level k l → ChildrenKeepNone k → SpelledChildren compact number s keep level l j → j ≡ l
    children_again blockless o blockless = refl
    children_again (spelled_block {level = level} {f = f} {g = g} c at nodes) o (spelled_block {g = g'} c' at' nodes') =
        let e = braced_stays s ok keep number level (or_empty_document f) g g' nodes c c' in
        let format = e.1 in
        let below = nodes_again nodes o nodes' e.0 in
        λ z. children (document (format z) (at' z) (below z))

    nodes_again : {level : ℕ} {b c : Before} {ns xs ys : Nodes} → SpelledNodes compact number s keep level b ns xs → NodesKeepNone ns → SpelledNodes compact number s keep level c xs ys → IsAgain number b c → ys ≡ xs
    nodes_again nodeless o nodeless i = refl
    nodes_again (one_more {b' = b} f p fs) o (one_more {b' = c} g q gs) i =
        let a = node_again f o.0 g i in
        let others = nodes_again fs o.1 gs (node_passes s ok keep number b c f p q) in
        λ z. first (a z) (others z)

  -- a second layout of a document
  pub document_again : (level : ℕ) (d x y : Document) → SpelledDocument compact number s keep level d x → DocumentKeepsNone d → SpelledDocument compact number s keep level x y → y ≡ x
  document_again level (document f at ns) (document g bt xs) (document h ct ys) (b, c, same, nodes) o (b', c', same', nodes') =
      let e = content_stays s ok keep number level (or_empty_document f) g h nodes c c' in
      let format = e.1 in
      let below = nodes_again nodes o nodes' e.0 in
      λ z. document (format z) (same' z) (below z)
