-- What is laid out, with or without spellings: what each part prints, and around it the texts that are kept.
use Rattle.kdl_layout.proofs.Common.{◌≡◌, ℕ, Bool, true, false, List, [], ◌∷◌, ◌++◌, map, refl, sym, ap, subst, ◌∙◌, Option, Some, None, option_map, append_assoc, append-nil, and_parts, list_all, ◌&&◌, not, is_some, Text, is_scalar, Value, print_value, IsWellFormed, IsIdentifierText, print_identifier, print_type, print_key, Identifier, EntryFormat, empty_format, Entry, unspelled, with_keep, autoformatted, entry_data, print_piece, NodeFormat, Head, Node, node, Children, Document, node_data, document_data, Settings, indentation, with_keep_if, or_empty, EntriesKeepNone, NodeKeepsNone, DocumentKeepsNone, Keeping, keeps_texts, AreNodeSpaces, KeptBefore, entry_leading, is_kept_format, IsSpelling, KeptSpelling, IsRespelled, IsRespelledIf, text_before, IsContinued, KeptLeading, KeptLeadingIf, TypeTexts, plain_format, KeptTypeTextsIf, KeepsForm, KeptForm, entry_type_texts, node_type_texts, with_type_texts, IsTypedFormat, HasSpellings, HasSpellingsIf, HasSpellingsUnless, IsRespelledEntry, AreRespelledEntries, IsRespelledNode, IsRespelledDocument, SpacesTexts, IsSpacedLine, IsSpacedNode, IsSpacedDocument, AreScalars, IsWellFormedEntry, AreWellFormedEntries, IsWellFormedNode, AreWellFormed, NodeTexts, following, IsFormattedEntry, AreFormattedEntries, line_of, Before}
use Rattle.kdl_grammar.specs.ReadsBack.{front_text, value_text, entry_trailing}
use Rattle.kdl_layout.proofs.NodeSpaces.{empty_spaces}
use Rattle.kdl_layout.proofs.Texts.{name_of, no_format}
use Rattle.kdl_layout.proofs.Respelling.Kept.{OnlySpaces, TypeSpaces, no_texts, no_type_spaces, place_if_spaces, type_spaces_if, types_bare_if}
use Rattle.kdl_layout.proofs.Respelling.Spellings.{printed_name, printed_spelling}
use Rattle.kdl_layout.proofs.Respelling.Spelled.{SpelledHead, SpelledNode, SpelledDocument, spelled_node, spelled_document}
use Rattle.kdl_layout.proofs.Respelling.Off.{itself_if}

-- an identifier prints a string that is its own
abbrev pub NameReads : Identifier → Type 0
NameReads i = IsIdentifierText (print_identifier i) i.value

abbrev pub NameReadsIf : Option Identifier → Type 0
NameReadsIf None = Unit {0}
NameReadsIf (Some i) = NameReads i

pub unspelled_reads : (i : Identifier) → list_all is_scalar i.value ≡ true → NameReads (unspelled i)
unspelled_reads i ok = printed_name i.value ok

pub respelled_reads : (keep : Bool) (i m i' : Identifier) → m ≡ unspelled i → list_all is_scalar i.value ≡ true → IsRespelled keep i m i' → NameReads i'
respelled_reads false i m i' e ok h = subst NameReads (sym (h ∙ e)) (unspelled_reads i ok)
respelled_reads true i m i' e ok (r, k, h) =
    subst NameReads (sym (h ∙ ap (λ (x : Identifier). record x { repr = r }) e)) (go k)
  where
    go : {o q : Option Text} → KeptSpelling i.value o q → NameReads (record i { repr = q })
    go (KeptSpelling.kept d) = d
    go (KeptSpelling.other n) = printed_name i.value ok
    go KeptSpelling.unspelled = printed_name i.value ok

pub respelled_reads_if : (keep : Bool) (o m o' : Option Identifier) → m ≡ option_map unspelled o → AreScalars (name_of o) → IsRespelledIf keep o m o' → NameReadsIf o'
respelled_reads_if keep None None None e ok h = tt
respelled_reads_if keep (Some i) (Some m) (Some i') e ok h = let x : m ≡ unspelled i = cc in respelled_reads keep i m i' x ok h
respelled_reads_if keep _ _ _ e ok h = absurd assumption

-- the text before an entry: what is kept of its comments, and a space; or a text that continues the line
pub data IsGap (s : Settings) (old before : Text) : Text → Type 0 where
  laid : IsGap s old before (before ++ (32 ∷ []))
  continued : IsContinued s old → IsGap s old before old

leading_gap : {s : Settings} {old laid r : Text} (t : Text) → laid ≡ t ++ (32 ∷ []) → KeptLeading s old laid r → IsGap s old t r
leading_gap t e (KeptLeading.continued c) = IsGap.continued c
leading_gap {s} {old} t e (KeptLeading.other n) = subst (IsGap s old t) (sym e) IsGap.laid

leading_gap_if : (keep : Bool) {s : Settings} {old laid r : Text} (t : Text) → laid ≡ t ++ (32 ∷ []) → KeptLeadingIf keep s old laid r → IsGap s old t r
leading_gap_if true t e k = leading_gap t e k
leading_gap_if false {s} {old} t e k = subst (IsGap s old t) (sym (k ∙ e)) IsGap.laid

-- the texts inside an entry: around its type, and around the `=`
pub record Inside : Type 0 where
  pub ty : TypeTexts
  pub after_key : Text
  pub after_eq : Text

abbrev pub nothing_inside : Inside
nothing_inside = record { ty = no_texts; after_key = []; after_eq = [] }

abbrev pub inside_of : EntryFormat → Inside
inside_of f = record { ty = entry_type_texts f; after_key = f.after_key; after_eq = f.after_eq }

-- those in a format, if there is one
abbrev pub format_inside : Option EntryFormat → Inside
format_inside None = nothing_inside
format_inside (Some f) = inside_of f

pub plain_inside : (t : Text) (v : Value) → format_inside (plain_format t v) ≡ nothing_inside
plain_inside [] v = refl
plain_inside (c ∷ t) v = refl

-- they are node-spaces, and none come after a type that is missing
pub record IsInside (ty : Option Identifier) (x : Inside) : Type 0 where
  pub ty_spaces : TypeSpaces x.ty
  pub after_key : AreNodeSpaces x.after_key
  pub after_eq : AreNodeSpaces x.after_eq
  pub untyped : ty ≡ None → x.ty.after ≡ []

nothing_is_inside : (ty : Option Identifier) → IsInside ty nothing_inside
nothing_is_inside ty = record { ty_spaces = no_type_spaces; after_key = empty_spaces; after_eq = empty_spaces; untyped = λ h. refl }

-- what an entry prints: a text, its key, its type, and the text w
abbrev pub printed_front : Text → Inside → Entry → Text → Text
printed_front gap x e r = gap ++ (print_key e.name x.after_key x.after_eq ++ (print_type e.ty x.ty.before_name x.ty.after_name ++ (x.ty.after ++ r)))

pub record Prints (q : Option EntryFormat) (gap w : Text) (x : Inside) (v : Value) : Type 0 where
  pub text : (e : Entry) → e.format ≡ q → e.value ≡ v → (r : Text) → print_piece e ++ r ≡ printed_front gap x e (w ++ r)
  pub front : (e : Entry) → e.format ≡ q → (r : Text) → front_text e e.format ++ r ≡ printed_front gap x e r
  pub value : (e : Entry) → e.format ≡ q → e.value ≡ v → value_text e e.format ≡ w
  pub trailing : entry_trailing q ≡ []
  pub unflagged : is_kept_format q ≡ false

formless_text : (k y w r : Text) → ((32 ∷ []) ++ (k ++ y ++ w)) ++ r ≡ 32 ∷ (k ++ (y ++ (w ++ r)))
formless_text k y w r = simp append_assoc

formless_front : (k y r : Text) → (32 ∷ k ++ y) ++ r ≡ 32 ∷ (k ++ (y ++ r))
formless_front k y r = simp append_assoc

formed_text : (l k y a w r : Text) → ([] ++ (l ++ k ++ y ++ a ++ w ++ [])) ++ r ≡ l ++ (k ++ (y ++ (a ++ (w ++ r))))
formed_text l k y a w r = simp (append_assoc, append-nil)

formed_front : (l k y a r : Text) → (l ++ k ++ y ++ a) ++ r ≡ l ++ (k ++ (y ++ (a ++ r)))
formed_front l k y a r = simp append_assoc

formless : (v : Value) → Prints None (32 ∷ []) (print_value v) nothing_inside v
formless v = record {
  text = λ e f g r. rw (f, g) (formless_text (print_key e.name [] []) (print_type e.ty [] []) (print_value v) r);
  front = λ e f r. rw f (formless_front (print_key e.name [] []) (print_type e.ty [] []) r);
  value = λ e f g. rw (f, g) refl;
  trailing = refl;
  unflagged = refl;
}

formed : (f : EntryFormat) (v : Value) → f.trailing ≡ [] → f.autoformat_keep ≡ false → Prints (Some f) f.leading f.value_repr (inside_of f) v
formed f v t n = record {
  text = λ e q w r. rw (q, t) (formed_text f.leading (print_key e.name f.after_key f.after_eq) (print_type e.ty f.before_ty_name f.after_ty_name) f.after_ty f.value_repr r);
  front = λ e q r. rw q (formed_front f.leading (print_key e.name f.after_key f.after_eq) (print_type e.ty f.before_ty_name f.after_ty_name) f.after_ty r);
  value = λ e q w. rw q refl;
  trailing = t;
  unflagged = n;
}

plain_prints : (t : Text) (v : Value) → Prints (plain_format t v) (t ++ (32 ∷ [])) (print_value v) nothing_inside v
plain_prints [] v = formless v
plain_prints (c ∷ t) v = formed (record empty_format { leading = (c ∷ t) ++ (32 ∷ []); value_repr = print_value v }) v refl refl

pub leading_is : (t : Text) (v : Value) → text_before (plain_format t v) ≡ t ++ (32 ∷ [])
leading_is [] v = refl
leading_is (c ∷ t) v = refl

-- a spelling of the value, and what is printed with it; `old` is the old text before the entry, and t what is kept of its
-- comments
pub record FormWritten (q : Option EntryFormat) (s : Settings) (old t : Text) (ty : Option Identifier) (v : Value) : Type 0 where
  pub word : Text
  pub gap : Text
  pub inside : Inside
  pub spelled : IsSpelling v word
  pub is_gap : IsGap s old t gap
  pub is_inside : IsInside ty inside
  pub of_format : inside ≡ format_inside q
  pub prints : Prints q gap word inside v

plain_written : (s : Settings) (old t : Text) (ty : Option Identifier) (v : Value) → IsWellFormed v → FormWritten (plain_format t v) s old t ty v
plain_written s old t ty v ok = record {
  word = print_value v;
  gap = t ++ (32 ∷ []);
  inside = nothing_inside;
  spelled = printed_spelling v ok;
  is_gap = IsGap.laid;
  is_inside = nothing_is_inside ty;
  of_format = sym (plain_inside t v);
  prints = plain_prints t v;
}

-- without a type, nothing is kept after it
pub none_typed : (b : Bool) (o : Option Identifier) (t x : TypeTexts) → o ≡ None → KeptTypeTextsIf (b && is_some o) t x → x.after ≡ []
none_typed b (Some i) t x e h = absurd cc
none_typed false None t x e h = ap (λ (z : TypeTexts). z.after) h
none_typed true None t x e h = ap (λ (z : TypeTexts). z.after) h

form_inside : (keep : Bool) (s : Settings) (e : Entry) (ty : Option Identifier) (f g : EntryFormat) (l value : Text) → (ty ≡ None → e.ty ≡ None) → KeepsForm keep s e f l value g → IsInside ty (inside_of g)
form_inside keep s e ty f g l value untyped k = record {
  ty_spaces = type_spaces_if (not s.no_comments && is_some e.ty) (entry_type_texts f) (entry_type_texts g) k.ty;
  after_key = place_if_spaces (not s.no_comments && is_some e.name) f.after_key g.after_key k.after_key;
  after_eq = place_if_spaces (not s.no_comments && is_some e.name) f.after_eq g.after_eq k.after_eq;
  untyped = λ h. none_typed (not s.no_comments) e.ty (entry_type_texts f) (entry_type_texts g) (untyped h) k.ty;
}

formed_written : (keep : Bool) (s : Settings) (e : Entry) (ty : Option Identifier) (t value : Text) (f g : EntryFormat) (p : Option EntryFormat) → (ty ≡ None → e.ty ≡ None) → p ≡ plain_format t e.value → IsSpelling e.value value
    → KeepsForm keep s e f (text_before p) value g → FormWritten (Some g) s f.leading t ty e.value
formed_written keep s e ty t value f g p u h d k =
    let l : text_before p ≡ t ++ (32 ∷ []) = ap text_before h ∙ leading_is t e.value in
    record {
      word = g.value_repr;
      gap = g.leading;
      inside = inside_of g;
      spelled = subst (IsSpelling e.value) (sym k.value_repr) d;
      is_gap = leading_gap_if keep t l k.leading;
      is_inside = form_inside keep s e ty f g (text_before p) value u k;
      of_format = refl;
      prints = formed g e.value k.trailing k.autoformat_keep;
    }

form_written : (keep : Bool) (s : Settings) (e : Entry) (ty : Option Identifier) (t : Text) (o p q : Option EntryFormat) → (ty ≡ None → e.ty ≡ None) → p ≡ plain_format t e.value → IsWellFormed e.value → KeptForm keep s e o p q
    → FormWritten q s (entry_leading o) t ty e.value
form_written keep s e ty t _ p _ u h ok (KeptForm.kept {f = f} {g = g} x d k) = formed_written keep s e ty t f.value_repr f g p u h d k
form_written keep s e ty t _ p _ u h ok (KeptForm.bare {f = f} n k) = subst (λ (x : Option EntryFormat). FormWritten x s f.leading t ty e.value) (sym h) (plain_written s f.leading t ty e.value ok)
form_written keep s e ty t _ p _ u h ok (KeptForm.other {f = f} {g = g} n k w) = formed_written keep s e ty t (print_value e.value) f g p u h (printed_spelling e.value ok) k
form_written keep s e ty t o p _ u h ok KeptForm.formless = subst (λ (x : Option EntryFormat). FormWritten x s (entry_leading o) t ty e.value) (sym h) (plain_written s (entry_leading o) t ty e.value ok)

-- an entry that is laid out: what is kept of the text before it, and what it prints
pub record IsWrittenEntry (s : Settings) (e e' : Entry) : Type 0 where
  pub before : Text
  pub kept : KeptBefore s e.format before
  pub form : FormWritten e'.format s (entry_leading e.format) before e'.ty e'.value
  pub name : NameReadsIf e'.name
  pub ty : NameReadsIf e'.ty
  pub unflagged : is_kept_format e.format ≡ false

-- a type that is missing was missing
pub none_if : (keep : Bool) (o m o' : Option Identifier) → IsRespelledIf keep o m o' → o' ≡ None → o ≡ None
none_if keep None m o' h e = refl
none_if keep (Some i) (Some m) (Some i') h e = absurd cc
none_if keep _ _ _ h e = absurd assumption

-- an entry but for its format: after a text it is the same
abbrev pub unformed : Entry → Entry
unformed e = record e { format = None }

pub after_unformed : (t : Text) (e : Entry) → unformed (following t e) ≡ unformed e
after_unformed [] e = refl
after_unformed (c ∷ t) e = refl

pub after_format : (t : Text) (e : Entry) → e.format ≡ None → (following t e).format ≡ plain_format t e.value
after_format [] e h = h
after_format (c ∷ t) e h = refl

-- the parts of an entry that is laid out
module _ (e m : Entry) (t : Text) (is : m ≡ following t (autoformatted e)) where
  parts_are : unformed m ≡ unformed (autoformatted e)
  parts_are = ap unformed is ∙ after_unformed t (autoformatted e)

  pub name_is : m.name ≡ option_map unspelled e.name
  name_is = ap (λ (x : Entry). x.name) parts_are

  pub ty_is : m.ty ≡ option_map unspelled e.ty
  ty_is = ap (λ (x : Entry). x.ty) parts_are

  pub value_is : m.value ≡ e.value
  value_is = ap (λ (x : Entry). x.value) parts_are

  pub format_is : is_kept_format e.format ≡ false → m.format ≡ plain_format t e.value
  format_is n = ap (λ (x : Entry). x.format) is ∙ after_format t (autoformatted e) (no_format e.format n)

-- an entry that keeps its spellings
module _ (s : Settings) (e m : Entry) (t : Text) (k : KeptBefore s e.format t) (is : m ≡ following t (autoformatted e)) (n : is_kept_format e.format ≡ false) (w : IsWellFormedEntry (entry_data e)) where
  entry_written : (keep : Bool) (e' : Entry) → IsRespelledIf keep e.name m.name e'.name → IsRespelledIf keep e.ty m.ty e'.ty → e'.value ≡ m.value → FormWritten e'.format s (entry_leading e.format) t e'.ty e.value → IsWrittenEntry s e e'
  entry_written keep e' name ty v form = record {
    before = t;
    kept = k;
    form = subst (FormWritten e'.format s (entry_leading e.format) t e'.ty) (sym (v ∙ value_is e m t is)) form;
    name = respelled_reads_if keep e.name m.name e'.name (name_is e m t is) w.0 name;
    ty = respelled_reads_if keep e.ty m.ty e'.ty (ty_is e m t is) w.1 ty;
    unflagged = n;
  }

  spelled_written : (keep : Bool) (e' : Entry) → HasSpellings keep s e m e' → IsWrittenEntry s e e'
  spelled_written keep e' h = entry_written keep e' h.name h.ty h.value (form_written keep s e e'.ty t e.format m.format e'.format (none_if keep e.ty m.ty e'.ty h.ty) (format_is e m t is n) w.2 h.format)

  respelled_written : (e' : Entry) → e' ≡ m → IsWrittenEntry s e e'
  respelled_written e' h =
      subst (IsWrittenEntry s e) (sym h)
      (entry_written false m (itself_if e.name m.name (name_is e m t is)) (itself_if e.ty m.ty (ty_is e m t is)) refl
      (subst (λ (x : Option EntryFormat). FormWritten x s (entry_leading e.format) t m.ty e.value) (sym (format_is e m t is n)) (plain_written s (entry_leading e.format) t m.ty e.value w.2)))

-- an entry that is not flagged
pub unflagged_same : (b : Bool) (e : Entry) → is_kept_format (with_keep_if b e).format ≡ false → with_keep_if b e ≡ e
unflagged_same false e h = refl
unflagged_same true e h = ap (λ (o : Option EntryFormat). record e { format = o }) (go e.format h)
  where
    go : (o : Option EntryFormat) → is_kept_format (option_map with_keep o) ≡ false → option_map with_keep o ≡ o
    go None h = refl
    go (Some f) h = absurd cc

pub written_entry : (s : Settings) (keep : Keeping) (e m e' : Entry) → IsFormattedEntry s e m → IsRespelledEntry keep s e m e' → is_kept_format (with_keep_if s.entry_autoformate_keep e).format ≡ false → IsWellFormedEntry (entry_data e) → IsWrittenEntry s e e'
written_entry s keep e m e' (t, k, q) h n w =
    let same = unflagged_same s.entry_autoformate_keep e n in
    let k' : KeptBefore s e.format t = subst (λ (x : Entry). KeptBefore s x.format t) same k in
    let q' : m ≡ following t (autoformatted e) = q ∙ ap (λ (x : Entry). following t (autoformatted x)) same in
    let n' : is_kept_format e.format ≡ false = ap (λ (x : Entry). is_kept_format x.format) (sym same) ∙ n in
    go (keeps_texts keep) k' q' n' h
  where
    spelled : (b : Bool) → b ≡ false → (t : Text) → KeptBefore s e.format t → m ≡ following t (autoformatted e) → is_kept_format e.format ≡ false → HasSpellingsUnless b keep.spelling s e m e' → IsWrittenEntry s e e'
    spelled true x t k q n h = absurd cc
    spelled false x t k q n h = spelled_written s e m t k q n w keep.spelling e' h

    go : (b : Bool) → KeptBefore s e.format t → m ≡ following t (autoformatted e) → is_kept_format e.format ≡ false → HasSpellingsIf b keep.spelling s e m e' → IsWrittenEntry s e e'
    go false k q x h = respelled_written s e m t k q x w e' h
    go true k q x h = spelled (is_kept_format (with_keep_if s.entry_autoformate_keep e).format) n t k q x h

-- entries, and a node without its children
abbrev pub AreWrittenEntries : Settings → List Entry → List Entry → Type 0
AreWrittenEntries s [] [] = Unit {0}
AreWrittenEntries s (e ∷ es) (e' ∷ es') = IsWrittenEntry s e e' × AreWrittenEntries s es es'
AreWrittenEntries s _ _ = ⊥

-- the texts around a node on its own line, with those that are kept around its type; nothing is kept of spaces
pub record IsTypedLine (number : ℕ) (s : Settings) (level : ℕ) (has : Bool) (b : Before) (f : NodeFormat) (ty : Option Identifier) (g : Option NodeFormat) : Type 0 where
  pub texts : NodeTexts
  pub types : TypeTexts
  pub kept : SpacesTexts number s level has b f texts
  pub is : g ≡ Some (with_type_texts types (line_of (indentation s level) texts))
  pub spaces : TypeSpaces types
  pub untyped : ty ≡ None → types.after ≡ []
  pub bare : OnlySpaces (node_type_texts f) → types ≡ no_texts

pub typed_line : (number : ℕ) (s : Settings) (level : ℕ) (has : Bool) (b : Before) (f : NodeFormat) (keep : Keeping) (o m o' : Option Identifier) (g g' : Option NodeFormat) → IsRespelledIf keep.spelling o m o'
    → IsSpacedLine number s level has b f g → IsTypedFormat (keeps_texts keep && not s.no_comments && is_some o) f g g' → IsTypedLine number s level has b f o' g'
typed_line number s level has b f keep o m o' g g' r (k, kept, e) t = go (keeps_texts keep && not s.no_comments && is_some o) refl t
  where
    go : (c : Bool) → (keeps_texts keep && not s.no_comments && is_some o) ≡ c → IsTypedFormat c f g g' → IsTypedLine number s level has b f o' g'
    go false x t = record { texts = k; types = no_texts; kept = kept; is = t ∙ e; spaces = no_type_spaces; untyped = λ h. refl; bare = λ h. refl }
    go true x (types, kt, q) = record {
      texts = k;
      types = types;
      kept = kept;
      is = q ∙ ap (option_map (with_type_texts types)) e;
      spaces = type_spaces_if true (node_type_texts f) types kt;
      untyped = λ h. let a = none_if keep.spelling o m o' r h in let c = (and_parts (keeps_texts keep && not s.no_comments) (is_some o) x).1 in let z : false ≡ true = ap is_some (sym a) ∙ c in absurd cc;
      bare = λ h. types_bare_if true (node_type_texts f) types h kt;
    }

pub record IsWrittenHead (number : ℕ) (s : Settings) (level : ℕ) (has : Bool) (b : Before) (h h' : Head) : Type 0 where
  pub ty : NameReadsIf h'.ty
  pub name : NameReads h'.name
  pub entries : AreWrittenEntries s h.entries h'.entries
  pub format : IsTypedLine number s level has b (or_empty h.format) h'.ty h'.format

pub head_line : {number : ℕ} {s : Settings} {keep : Keeping} (level : ℕ) (has : Bool) (b : Before) (h x : Head) → SpelledHead number s keep level has b h x → IsTypedLine number s level has b (or_empty h.format) x.ty x.format
head_line {number} {s} {keep} level has b h x f =
    typed_line number s level has b (or_empty h.format) keep h.ty f.laid.ty x.ty f.laid.format x.format f.respelled.ty f.spaced.format f.respelled.format

module _ (s : Settings) (no_keep : s.entry_autoformate_keep ≡ false) (keep : Keeping) where
  no_flag : (e : Entry) → is_kept_format e.format ≡ false → is_kept_format (with_keep_if s.entry_autoformate_keep e).format ≡ false
  no_flag e h = ap (λ (b : Bool). is_kept_format (with_keep_if b e).format) no_keep ∙ h

  written_entries : (es ms es' : List Entry) → AreFormattedEntries s es ms → AreRespelledEntries keep s es ms es' → EntriesKeepNone es → AreWellFormedEntries (map entry_data es) → AreWrittenEntries s es es'
  written_entries [] [] [] f h n w = tt
  written_entries (e ∷ es) (m ∷ ms) (e' ∷ es') f h n w = (written_entry s keep e m e' f.0 h.0 (no_flag e n.0) w.0, written_entries es ms es' f.1 h.1 n.1 w.1)
  written_entries _ _ _ f h n w = absurd assumption

  pub written_head : {number : ℕ} (level : ℕ) (has : Bool) (b : Before) (h x : Head) (k : Children) → SpelledHead number s keep level has b h x → EntriesKeepNone h.entries → IsWellFormedNode (node_data (node h k)) → IsWrittenHead number s level has b h x
  written_head level has b h x k f o w = record {
    ty = respelled_reads_if keep.spelling h.ty f.laid.ty x.ty f.spaced.ty w.0 f.respelled.ty;
    name = respelled_reads keep.spelling h.name f.laid.name x.name f.spaced.name w.1 f.respelled.name;
    entries = written_entries h.entries f.laid.entries x.entries f.spaced.entries f.respelled.entries o w.2;
    format = head_line level has b h x f;
  }

-- a node that is laid out, where none of its entries was flagged, and memory can hold it
pub record IsWrittenNode (compact : Bool) (number : ℕ) (s : Settings) (keep : Keeping) (level : ℕ) (b : Before) (n x : Node) : Type 0 where
  pub no_keep : s.entry_autoformate_keep ≡ false
  pub laid : SpelledNode compact number s keep level b n x
  pub unflagged : NodeKeepsNone n
  pub fit : IsWellFormedNode (node_data n)

pub record IsWrittenDocument (compact : Bool) (number : ℕ) (s : Settings) (keep : Keeping) (level : ℕ) (d x : Document) : Type 0 where
  pub no_keep : s.entry_autoformate_keep ≡ false
  pub laid : SpelledDocument compact number s keep level d x
  pub unflagged : DocumentKeepsNone d
  pub fit : AreWellFormed (document_data d)

module _ (compact : Bool) (number : ℕ) (s : Settings) (no_keep : s.entry_autoformate_keep ≡ false) (keep : Keeping) (level : ℕ) where
  pub written_node : (b : Before) (n m x : Node) → IsSpacedNode compact number s level b n m → IsRespelledNode keep s n m x → NodeKeepsNone n → IsWellFormedNode (node_data n) → IsWrittenNode compact number s keep level b n x
  written_node b n m x f r o w = record { no_keep = no_keep; laid = spelled_node compact number s keep level b n m x f r; unflagged = o; fit = w }

  pub written_document : (d m x : Document) → IsSpacedDocument compact number s level d m → IsRespelledDocument keep s d m x → DocumentKeepsNone d → AreWellFormed (document_data d) → IsWrittenDocument compact number s keep level d x
  written_document d m x f r o w = record { no_keep = no_keep; laid = spelled_document compact number s keep level d m x f r; unflagged = o; fit = w }
