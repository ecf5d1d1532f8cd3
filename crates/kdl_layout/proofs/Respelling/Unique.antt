-- What is kept inside nodes is one thing, and so is what layout makes.
use Rattle.kdl_layout.proofs.Common.{◌≡◌, ℕ, Bool, true, false, List, [], ◌∷◌, refl, sym, ap, subst, ◌∙◌, Option, Some, None, option_map, not, is_some, ◌&&◌, Text, Identifier, EntryFormat, Entry, NodeFormat, Head, Node, node, Children, no_children, children, Document, document, Nodes, none, first, Settings, Keeping, keeps_texts, with_keep_if, or_empty, is_kept_format, KeptSpelling, IsRespelled, IsRespelledIf, KeptLeading, KeptLeadingIf, KeptPlace, KeptPlaceIf, TypeTexts, KeptTypeTextsIf, KeepsForm, KeptForm, NothingInside, bare_inside, entry_type_texts, node_type_texts, with_type_texts, IsTypedFormat, HasSpellings, HasSpellingsIf, HasSpellingsUnless, AreRespelledEntries, IsRespelledHead, IsRespelledNode, AreRespelledChildren, IsRespelledDocument, AreRespelledNodes, Before}
use Rattle.kdl_layout.specs.Respelled.{IsSpelledDocument, IsSpelledNode}
use Rattle.kdl_layout.proofs.Formatting.FormattedUnique.{head_same}
use Rattle.kdl_layout.proofs.Formatting.SpacedUnique.{spaced_det, spaced_node_det}
use Rattle.kdl_layout.specs.OneLine.{IsLaidDocument, IsLaidNode, one_lined_document, one_lined_node}

spelling_det : {s : Text} {o p q : Option Text} → KeptSpelling s o p → KeptSpelling s o q → p ≡ q
spelling_det (KeptSpelling.kept a) (KeptSpelling.kept b) = refl
spelling_det (KeptSpelling.kept a) (KeptSpelling.other b) = absurd (b a)
spelling_det (KeptSpelling.other a) (KeptSpelling.kept b) = absurd (a b)
spelling_det (KeptSpelling.other a) (KeptSpelling.other b) = refl
spelling_det KeptSpelling.unspelled KeptSpelling.unspelled = refl

respelled_det : (keep : Bool) (i m x y : Identifier) → IsRespelled keep i m x → IsRespelled keep i m y → x ≡ y
respelled_det false i m x y a b = a ∙ sym b
respelled_det true i m x y (r, k, a) (q, l, b) = a ∙ ap (λ (o : Option Text). record m { repr = o }) (spelling_det k l) ∙ sym b

respelled_if_det : (keep : Bool) (o m x y : Option Identifier) → IsRespelledIf keep o m x → IsRespelledIf keep o m y → x ≡ y
respelled_if_det keep None None None None a b = refl
respelled_if_det keep (Some i) (Some m) (Some x) (Some y) a b = ap Some (respelled_det keep i m x y a b)
respelled_if_det keep _ _ _ _ a b = absurd assumption

place_det : {t x y : Text} → KeptPlace t x → KeptPlace t y → x ≡ y
place_det (KeptPlace.kept a) (KeptPlace.kept b) = refl
place_det (KeptPlace.kept a) (KeptPlace.other b) = absurd (b a)
place_det (KeptPlace.other a) (KeptPlace.kept b) = absurd (a b)
place_det (KeptPlace.other a) (KeptPlace.other b) = refl

place_if_det : (keep : Bool) (t x y : Text) → KeptPlaceIf keep t x → KeptPlaceIf keep t y → x ≡ y
place_if_det false t x y a b = a ∙ sym b
place_if_det true t x y a b = place_det a b

leading_det : {s : Settings} {old laid x y : Text} → KeptLeading s old laid x → KeptLeading s old laid y → x ≡ y
leading_det (KeptLeading.continued a) (KeptLeading.continued b) = refl
leading_det (KeptLeading.continued a) (KeptLeading.other b) = absurd (b a)
leading_det (KeptLeading.other a) (KeptLeading.continued b) = absurd (a b)
leading_det (KeptLeading.other a) (KeptLeading.other b) = refl

leading_if_det : (keep : Bool) (s : Settings) (old laid x y : Text) → KeptLeadingIf keep s old laid x → KeptLeadingIf keep s old laid y → x ≡ y
leading_if_det false s old laid x y a b = a ∙ sym b
leading_if_det true s old laid x y a b = leading_det a b

types_det : (keep : Bool) (old x y : TypeTexts) → KeptTypeTextsIf keep old x → KeptTypeTextsIf keep old y → x ≡ y
types_det false old x y a b = a ∙ sym b
types_det true old x y a b =
    let before = place_det a.before_name b.before_name in
    let behind = place_det a.after_name b.after_name in
    let after = place_det a.after b.after in
    λ i. record { before_name = before i; after_name = behind i; after = after i }

form_det : (keep : Bool) (s : Settings) (e : Entry) (f : EntryFormat) (laid value : Text) (g h : EntryFormat) → KeepsForm keep s e f laid value g → KeepsForm keep s e f laid value h → g ≡ h
form_det keep s e f laid value g h a b =
    let leading = leading_if_det keep s f.leading laid g.leading h.leading a.leading b.leading in
    let repr = a.value_repr ∙ sym b.value_repr in
    let ty = types_det (not s.no_comments && is_some e.ty) (entry_type_texts f) (entry_type_texts g) (entry_type_texts h) a.ty b.ty in
    let key = place_if_det (not s.no_comments && is_some e.name) f.after_key g.after_key h.after_key a.after_key b.after_key in
    let eq = place_if_det (not s.no_comments && is_some e.name) f.after_eq g.after_eq h.after_eq a.after_eq b.after_eq in
    let trailing = a.trailing ∙ sym b.trailing in
    let flag = a.autoformat_keep ∙ sym b.autoformat_keep in
    λ i. record {
      leading = leading i;
      value_repr = repr i;
      before_ty_name = (ty i).before_name;
      after_ty_name = (ty i).after_name;
      after_ty = (ty i).after;
      after_key = key i;
      after_eq = eq i;
      trailing = trailing i;
      autoformat_keep = flag i;
    }

-- where nothing is kept inside an entry, only spaces are
bare_then : (keep : Bool) (s : Settings) (e : Entry) (f : EntryFormat) (laid value : Text) (g : EntryFormat) → NothingInside s e f → KeepsForm keep s e f laid value g → bare_inside g ≡ true
bare_then keep s e f laid value g n k =
    let ty = types_det (not s.no_comments && is_some e.ty) (entry_type_texts f) (entry_type_texts g) (record { before_name = []; after_name = []; after = [] }) k.ty n.ty in
    let before : g.before_ty_name ≡ [] = ap (λ (x : TypeTexts). x.before_name) ty in
    let behind : g.after_ty_name ≡ [] = ap (λ (x : TypeTexts). x.after_name) ty in
    let after : g.after_ty ≡ [] = ap (λ (x : TypeTexts). x.after) ty in
    let key : g.after_key ≡ [] = place_if_det (not s.no_comments && is_some e.name) f.after_key g.after_key [] k.after_key n.after_key in
    let eq : g.after_eq ≡ [] = place_if_det (not s.no_comments && is_some e.name) f.after_eq g.after_eq [] k.after_eq n.after_eq in
    rw (before, behind, after, key, eq) refl

kept_form_det : (keep : Bool) (s : Settings) (e : Entry) {o p x y : Option EntryFormat} → KeptForm keep s e o p x → KeptForm keep s e o p y → x ≡ y
kept_form_det keep s e {p = p} (KeptForm.kept {f = f} {g = g} a b c) (KeptForm.kept {g = h} a' b' c') = ap Some (form_det keep s e f _ f.value_repr g h c c')
kept_form_det keep s e (KeptForm.kept a b c) (KeptForm.bare d n) = absurd (d a b)
kept_form_det keep s e (KeptForm.kept a b c) (KeptForm.other d k i) = absurd (d a b)
kept_form_det keep s e (KeptForm.bare d n) (KeptForm.kept a b c) = absurd (d a b)
kept_form_det keep s e (KeptForm.bare d n) (KeptForm.bare d' n') = refl
kept_form_det keep s e (KeptForm.bare {f = f} d n) (KeptForm.other {g = g} d' k i) = let b = bare_then keep s e f _ _ g n k in absurd cc
kept_form_det keep s e (KeptForm.other d k i) (KeptForm.kept a b c) = absurd (d a b)
kept_form_det keep s e (KeptForm.other {f = f} {g = g} d' k i) (KeptForm.bare d n) = let b = bare_then keep s e f _ _ g n k in absurd cc
kept_form_det keep s e (KeptForm.other {f = f} {g = g} d k i) (KeptForm.other {g = h} d' k' i') = ap Some (form_det keep s e f _ _ g h k k')
kept_form_det keep s e KeptForm.formless KeptForm.formless = refl

entry_same : {e e' : Entry} → e.ty ≡ e'.ty → e.value ≡ e'.value → e.name ≡ e'.name → e.format ≡ e'.format → e.span ≡ e'.span → e ≡ e'
entry_same a b c d f = λ i. record { ty = a i; value = b i; name = c i; format = d i; span = f i }

spellings_det : (keep : Bool) (s : Settings) (e m x y : Entry) → HasSpellings keep s e m x → HasSpellings keep s e m y → x ≡ y
spellings_det keep s e m x y a b =
    entry_same (respelled_if_det keep e.ty m.ty x.ty y.ty a.ty b.ty) (a.value ∙ sym b.value) (respelled_if_det keep e.name m.name x.name y.name a.name b.name) (kept_form_det keep s e a.format b.format) (a.span ∙ sym b.span)

unless_det : (b keep : Bool) (s : Settings) (e m x y : Entry) → HasSpellingsUnless b keep s e m x → HasSpellingsUnless b keep s e m y → x ≡ y
unless_det true keep s e m x y a b = a ∙ sym b
unless_det false keep s e m x y a b = spellings_det keep s e m x y a b

if_det : (b keep : Bool) (s : Settings) (e m x y : Entry) → HasSpellingsIf b keep s e m x → HasSpellingsIf b keep s e m y → x ≡ y
if_det false keep s e m x y a b = a ∙ sym b
if_det true keep s e m x y a b = unless_det (is_kept_format (with_keep_if s.entry_autoformate_keep e).format) keep s e m x y a b

entries_det : (keep : Keeping) (s : Settings) (es ms xs ys : List Entry) → AreRespelledEntries keep s es ms xs → AreRespelledEntries keep s es ms ys → xs ≡ ys
entries_det keep s [] [] [] [] a b = refl
entries_det keep s (e ∷ es) (m ∷ ms) (x ∷ xs) (y ∷ ys) a b =
    let here = if_det (keeps_texts keep) keep.spelling s e m x y a.0 b.0 in
    let others = entries_det keep s es ms xs ys a.1 b.1 in
    cc
entries_det keep s _ _ _ _ a b = absurd assumption

typed_det : (b : Bool) (f : NodeFormat) (m x y : Option NodeFormat) → IsTypedFormat b f m x → IsTypedFormat b f m y → x ≡ y
typed_det false f m x y a b = a ∙ sym b
typed_det true f m x y (t, k, a) (u, l, b) = a ∙ ap (λ (z : TypeTexts). option_map (with_type_texts z) m) (types_det true (node_type_texts f) t u k l) ∙ sym b

head_det : (keep : Keeping) (s : Settings) (h m x y : Head) → IsRespelledHead keep s h m x → IsRespelledHead keep s h m y → x ≡ y
head_det keep s h m x y a b =
    head_same (respelled_if_det keep.spelling h.ty m.ty x.ty y.ty a.ty b.ty) (respelled_det keep.spelling h.name m.name x.name y.name a.name b.name) (entries_det keep s h.entries m.entries x.entries y.entries a.entries b.entries)
    (typed_det (keeps_texts keep && not s.no_comments && is_some h.ty) (or_empty h.format) m.format x.format y.format a.format b.format) (a.span ∙ sym b.span)

mutual
  node_det : (keep : Keeping) (s : Settings) (n m x y : Node) → IsRespelledNode keep s n m x → IsRespelledNode keep s n m y → x ≡ y
  node_det keep s (node h k) (node m j) (node h1 k1) (node h2 k2) a b = let own = head_det keep s h m h1 h2 a.0 b.0 in let below = children_det keep s k j k1 k2 a.1 b.1 in cc

  children_det : (keep : Keeping) (s : Settings) (k j x y : Children) → AreRespelledChildren keep s k j x → AreRespelledChildren keep s k j y → x ≡ y
  children_det keep s no_children no_children no_children no_children a b = refl
  children_det keep s (children d) (children m) (children x) (children y) a b = ap children (document_det keep s d m x y a b)
  children_det keep s _ _ _ _ a b = absurd assumption

  document_det : (keep : Keeping) (s : Settings) (d m x y : Document) → IsRespelledDocument keep s d m x → IsRespelledDocument keep s d m y → x ≡ y
  document_det keep s (document f at ns) (document g bt ms) (document f1 at1 ns1) (document f2 at2 ns2) a b =
      let format = a.0 ∙ sym b.0 in
      let span = a.1 ∙ sym b.1 in
      let nodes = nodes_det keep s ns ms ns1 ns2 a.2 b.2 in
      λ i. document (format i) (span i) (nodes i)

  nodes_det : (keep : Keeping) (s : Settings) (ns ms xs ys : Nodes) → AreRespelledNodes keep s ns ms xs → AreRespelledNodes keep s ns ms ys → xs ≡ ys
  nodes_det keep s none none none none a b = refl
  nodes_det keep s (first n ns) (first m ms) (first x xs) (first y ys) a b = let here = node_det keep s n m x y a.0 b.0 in let others = nodes_det keep s ns ms xs ys a.1 b.1 in cc
  nodes_det keep s _ _ _ _ a b = absurd assumption

spelled_det : (keep : Keeping) (compact : Bool) (number : ℕ) (s : Settings) (level : ℕ) (d x y : Document) → IsSpelledDocument keep compact number s level d x → IsSpelledDocument keep compact number s level d y → x ≡ y
spelled_det keep compact number s level d x y (m, a, r) (n, b, q) =
    document_det keep s d m x y r (subst (λ (z : Document). IsRespelledDocument keep s d z y) (sym (spaced_det compact number s level d m n a b)) q)

spelled_node_det : (keep : Keeping) (compact : Bool) (number : ℕ) (s : Settings) (level : ℕ) (b : Before) (n x y : Node) → IsSpelledNode keep compact number s level b n x → IsSpelledNode keep compact number s level b n y → x ≡ y
spelled_node_det keep compact number s level b n x y (m, f, r) (m', g, q) =
    node_det keep s n m x y r (subst (λ (z : Node). IsRespelledNode keep s n z y) (sym (spaced_node_det compact number s level b b n m m' (λ _. refl) f g)) q)

-- what layout makes of a document is one thing, and of a node
pub laid_det : (keep : Keeping) (line compact : Bool) (number : ℕ) (s : Settings) (level : ℕ) (d x y : Document) → IsLaidDocument keep line compact number s level d x → IsLaidDocument keep line compact number s level d y → x ≡ y
laid_det keep line compact number s level d x y (r, f, a) (q, g, b) = a ∙ ap (one_lined_document line d) (spelled_det keep compact number s level d r q f g) ∙ sym b

pub laid_node_det : (keep : Keeping) (line compact : Bool) (number : ℕ) (s : Settings) (level : ℕ) (b : Before) (n x y : Node) → IsLaidNode keep line compact number s level b n x → IsLaidNode keep line compact number s level b n y → x ≡ y
laid_node_det keep line compact number s level b n x y (r, f, a) (q, g, e) = a ∙ ap (one_lined_node line n) (spelled_node_det keep compact number s level b n r q f g) ∙ sym e
