-- Comments inside entries and types: one list at most, and what is kept inside holds the comments that it held.
use Rattle.kdl_layout.proofs.Common.{◌≡◌, ◌≢◌, Star, NodeSpace, indentation, line_of, ℕ, Bool, true, false, List, [], ◌∷◌, ◌++◌, map, refl, sym, ap, subst, ◌∙◌, Option, Some, None, option_map, append-nil, map-append, ◌&&◌, not, is_some, Text, Identifier, EntryFormat, Entry, NodeFormat, Head, Item, before_entry, PlaceItems, on_line, line_text, AreNodeSpaces, Keeping, Settings, keeps_texts, or_empty, only_spaces, ItemsIn, KeptPlace, KeptPlaceIf, TypeTexts, KeptTypeTexts, KeptTypeTextsIf, KeptForm, entry_type_texts, node_type_texts, with_type_texts, IsTypedFormat, HasSpellings, HasSpellingsIf, HasSpellingsUnless, IsRespelledIf, IsRespelledEntry, AreRespelledEntries, AreFormattedEntries, IsFormattedEntry, with_keep_if, is_kept_format, EntriesKeepNone, autoformatted, following, Before, plain_format}
use Rattle.kdl_layout.specs.Comments.{InnerIn, InnerItems, KeyItems, TypeItems, InsideItems, EntryItems}
use Rattle.kdl_layout.proofs.NodeSpaces.{empty_spaces}
use Rattle.kdl_layout.proofs.Listing.ItemsUnique.{items_in_det, place_in_det, place_items_det}
use Rattle.kdl_layout.proofs.Keeping.KeptPlaces.{place_stays}
use Rattle.kdl_layout.proofs.Keeping.KeptReads.{spaces_in}
use Rattle.kdl_layout.proofs.Rewriting.BeforeNewlines.{spaces_before_each}
use Rattle.kdl_layout.proofs.Rewriting.LinesAgain.{line_text_again}
use Rattle.kdl_layout.proofs.Respelling.Kept.{OnlySpaces, no_texts, line_spaces, spaces_place, each_place}
use Rattle.kdl_layout.proofs.Respelling.Written.{Inside, nothing_inside, format_inside, plain_inside, format_is, unflagged_same, IsTypedLine}
use Rattle.kdl_layout.proofs.Respelling.Spelled.{SpelledHead}

-- one list at most
both : {a b c d : List Item} → a ≡ c → b ≡ d → a ++ b ≡ c ++ d
both e f = rw (e, f) refl

inner_det : (inner : Bool) (t : Text) {is js : List Item} → InnerIn inner t is → InnerIn inner t js → is ≡ js
inner_det false t i j = i ∙ sym j
inner_det true t i j = items_in_det (λ is js d e. place_items_det d.1 e.1) i j

key_det : (inner : Bool) (o : Option Identifier) (t u : Text) {is js : List Item} → KeyItems inner o t u is → KeyItems inner o t u js → is ≡ js
key_det inner None t u i j = i ∙ sym j
key_det inner (Some o) t u (a, b, i, j, e) (c, d, k, l, f) = e ∙ both (inner_det inner t i k) (inner_det inner u j l) ∙ sym f

pub type_det : (inner : Bool) (o : Option Identifier) (x : TypeTexts) {is js : List Item} → TypeItems inner o x is → TypeItems inner o x js → is ≡ js
type_det inner None x i j = i ∙ sym j
type_det inner (Some o) x (a, b, c, i, j, k, e) (a', b', c', i', j', k', e') = e ∙ both (both (inner_det inner x.before_name i i') (inner_det inner x.after_name j j')) (inner_det inner x.after k k') ∙ sym e'

inside_det : (inner : Bool) (k o : Option Identifier) (f : Option EntryFormat) {is js : List Item} → InsideItems inner k o f is → InsideItems inner k o f js → is ≡ js
inside_det inner k o None i j = i ∙ sym j
inside_det inner k o (Some f) (a, b, i, j, e) (a', b', i', j', e') = e ∙ both (key_det inner k f.after_key f.after_eq i i') (type_det inner o (entry_type_texts f) j j') ∙ sym e'

pub entry_det : (inner : Bool) (e : Entry) {is js : List Item} → EntryItems inner e is → EntryItems inner e js → is ≡ js
entry_det inner e (a, b, i, j, q) (a', b', i', j', q') = q ∙ both (place_in_det i i') (inside_det inner e.name e.ty e.format j j') ∙ sym q'

-- an empty text holds none
pub empty_inner : (inner : Bool) → InnerIn inner [] []
empty_inner false = refl
empty_inner true = ItemsIn.items (empty_spaces, PlaceItems.ends refl)

pub no_key_items : (inner : Bool) (o : Option Identifier) → KeyItems inner o [] [] []
no_key_items inner None = refl
no_key_items inner (Some i) = ([], [], empty_inner inner, empty_inner inner, refl)

pub no_type_items : (inner : Bool) (o : Option Identifier) → TypeItems inner o no_texts []
no_type_items inner None = refl
no_type_items inner (Some i) = ([], [], [], empty_inner inner, empty_inner inner, empty_inner inner, refl)

-- none is counted inside
key_none : (o : Option Identifier) (t u : Text) → KeyItems false o t u []
key_none None t u = refl
key_none (Some i) t u = ([], [], refl, refl, refl)

pub type_none : (o : Option Identifier) (x : TypeTexts) → TypeItems false o x []
type_none None x = refl
type_none (Some i) x = ([], [], [], refl, refl, refl, refl)

pub inside_none : (k o : Option Identifier) (f : Option EntryFormat) → InsideItems false k o f []
inside_none k o None = refl
inside_none k o (Some f) = ([], [], key_none k f.after_key f.after_eq, type_none o (entry_type_texts f), refl)

none_of : {a b : List Item} → a ≡ [] → b ≡ [] → a ++ b ≡ []
none_of e f = rw (e, f) refl

key_off : (o : Option Identifier) (t u : Text) {is : List Item} → KeyItems false o t u is → is ≡ []
key_off None t u i = i
key_off (Some o) t u (a, b, i, j, e) = e ∙ none_of i j

type_off : (o : Option Identifier) (x : TypeTexts) {is : List Item} → TypeItems false o x is → is ≡ []
type_off None x i = i
type_off (Some o) x (a, b, c, i, j, k, e) = e ∙ none_of (none_of i j) k

inside_off : (k o : Option Identifier) (f : Option EntryFormat) {is : List Item} → InsideItems false k o f is → is ≡ []
inside_off k o None i = i
inside_off k o (Some f) (a, b, i, j, e) = e ∙ none_of (key_off k f.after_key f.after_eq i) (type_off o (entry_type_texts f) j)

-- nor do spaces
inner_nothing : (inner : Bool) (t : Text) {is : List Item} → InnerIn inner t is → only_spaces t ≡ true → is ≡ []
inner_nothing false t i h = i
inner_nothing true t (ItemsIn.items d) h = place_in_det (ItemsIn.items d.1) (spaces_in (before_entry true) (line_text t) (line_spaces t ∙ h))
inner_nothing true t (ItemsIn.no_items n) h = refl

pub type_nothing : (inner : Bool) (o : Option Identifier) (x : TypeTexts) {is : List Item} → TypeItems inner o x is → OnlySpaces x → is ≡ []
type_nothing inner None x i h = i
type_nothing inner (Some o) x (a, b, c, i, j, k, e) h = e ∙ none_of (none_of (inner_nothing inner x.before_name i h.before_name) (inner_nothing inner x.after_name j h.after_name)) (inner_nothing inner x.after k h.after)

-- what is kept of a text holds its comments
there_are : {t : Text} → AreNodeSpaces t → (is : List Item) × PlaceItems (before_entry true) t is
there_are {t} a = let (is, d) = spaces_place (a []) refl in (is, subst (λ (z : Text). PlaceItems (before_entry true) z is) (append-nil t) d)

-- a text that is inside an entry or a type, before a rest, has a list
pub inside_has : (t r : Text) → r ≢ [] → Star NodeSpace (t ++ r) r → (is : List Item) × InnerItems t is
inside_has t r h ss = let a = spaces_before_each t r h ss in let (is, d) = there_are a in (is, (a, d))

inner_kept : (inner : Bool) (is : List Item) {t r : Text} → KeptPlace t r → InnerIn inner t is → InnerIn inner r (map on_line is)
inner_kept false is k i = ap (map on_line) i
inner_kept true is {t} (KeptPlace.kept h) (ItemsIn.items (a, d)) =
    ItemsIn.items (
      subst AreNodeSpaces (sym (line_text_again t)) a,
      subst (λ (z : Text). PlaceItems (before_entry true) z (map on_line is)) (sym (line_text_again t)) (subst (PlaceItems (before_entry true) (line_text t)) (sym (place_stays d)) d),
    )
inner_kept true _ {t} (KeptPlace.kept h) (ItemsIn.no_items n) = let (is, d) = there_are h.0 in absurd (n is (h.0, d))
inner_kept true is {t} (KeptPlace.other n) (ItemsIn.items (a, d)) = go (only_spaces (line_text t)) refl
  where
    go : (b : Bool) → only_spaces (line_text t) ≡ b → InnerIn true [] (map on_line is)
    go true e = subst (λ (z : List Item). InnerIn true [] (map on_line z)) (sym (place_in_det (ItemsIn.items d) (spaces_in (before_entry true) (line_text t) e))) (empty_inner true)
    go false e = absurd (n (a, e))
inner_kept true _ (KeptPlace.other n) (ItemsIn.no_items m) = empty_inner true

-- what stays inside an entry
abbrev pub KeepsTextsIn : Settings → Entry → Option EntryFormat → Inside → Type 0
KeepsTextsIn s e None x = x ≡ nothing_inside
KeepsTextsIn s e (Some f) x =
    KeptTypeTextsIf (not s.no_comments && is_some e.ty) (entry_type_texts f) x.ty × KeptPlaceIf (not s.no_comments && is_some e.name) f.after_key x.after_key × KeptPlaceIf (not s.no_comments && is_some e.name) f.after_eq x.after_eq

pub record HoldsInside (s : Settings) (e e' : Entry) : Type 0 where
  pub name : is_some e'.name ≡ is_some e.name
  pub ty : is_some e'.ty ≡ is_some e.ty
  pub inside : KeepsTextsIn s e e.format (format_inside e'.format)

abbrev pub HoldInside : Settings → List Entry → List Entry → Type 0
HoldInside s [] [] = Unit {0}
HoldInside s (e ∷ es) (e' ∷ es') = HoldsInside s e e' × HoldInside s es es'
HoldInside s _ _ = ⊥

-- the comments inside an entry are those that were there
abbrev pub AreInside : Bool → Entry → Inside → List Item → Type 0
AreInside inner e' x is = (js ks : List Item) × KeyItems inner e'.name x.after_key x.after_eq js × TypeItems inner e'.ty x.ty ks × (is ≡ js ++ ks)

-- so does what is kept around a key and a type
module _ (s : Settings) (with : s.no_comments ≡ false) where
  keeps : (o : Option Identifier) (i : Identifier) → o ≡ Some i → (not s.no_comments && is_some o) ≡ true
  keeps o i e = rw (with, e) refl

  place_kept : (inner : Bool) (i : Identifier) (t r : Text) (is : List Item) → KeptPlaceIf (not s.no_comments && is_some (Some i)) t r → InnerIn inner t is → InnerIn inner r (map on_line is)
  place_kept inner i t r is k j = inner_kept inner is (subst (λ (b : Bool). KeptPlaceIf b t r) (keeps (Some i) i refl) k) j

  pub key_kept : (inner : Bool) (o o' : Option Identifier) (t u t' u' : Text) (is : List Item) → is_some o' ≡ is_some o → KeptPlaceIf (not s.no_comments && is_some o) t t' → KeptPlaceIf (not s.no_comments && is_some o) u u'
      → KeyItems inner o t u is → KeyItems inner o' t' u' (map on_line is)
  key_kept inner None None t u t' u' is e k l i = ap (map on_line) i
  key_kept inner (Some o) (Some o') t u t' u' is e k l (a, b, i, j, q) = (map on_line a, map on_line b, place_kept inner o t t' a k i, place_kept inner o u u' b l j, ap (map on_line) q ∙ map-append on_line a b)
  key_kept inner None (Some o') t u t' u' is e k l i = absurd cc
  key_kept inner (Some o) None t u t' u' is e k l i = absurd cc

  pub type_kept : (inner : Bool) (o o' : Option Identifier) (t x : TypeTexts) (is : List Item) → is_some o' ≡ is_some o → KeptTypeTextsIf (not s.no_comments && is_some o) t x → TypeItems inner o t is → TypeItems inner o' x (map on_line is)
  type_kept inner None None t x is e k i = ap (map on_line) i
  type_kept inner (Some o) (Some o') t x is e k (a, b, c, i, j, l, q) =
      let w = each_place (not s.no_comments && is_some (Some o)) t x k in
      (map on_line a, map on_line b, map on_line c, place_kept inner o t.before_name x.before_name a w.0 i, place_kept inner o t.after_name x.after_name b w.1 j, place_kept inner o t.after x.after c w.2 l, ap (map on_line) q ∙ map-append on_line (a ++ b) c ∙ ap (λ (z : List Item). z ++ map on_line c) (map-append on_line a b))
  type_kept inner None (Some o') t x is e k i = absurd cc
  type_kept inner (Some o) None t x is e k i = absurd cc

  none_inside : (inner : Bool) (e' : Entry) (x : Inside) → x ≡ nothing_inside → AreInside inner e' x []
  none_inside inner e' x h = rw h ([], [], no_key_items inner e'.name, no_type_items inner e'.ty, refl)

  pub inside_stays : (inner : Bool) (e e' : Entry) (is : List Item) → (inner ≡ true → HoldsInside s e e') → InsideItems inner e.name e.ty e.format is → AreInside inner e' (format_inside e'.format) (map on_line is)
  inside_stays false e e' is h i =
      subst (λ (z : List Item). AreInside false e' (format_inside e'.format) (map on_line z)) (sym (inside_off e.name e.ty e.format i))
      ([], [], key_none e'.name (format_inside e'.format).after_key (format_inside e'.format).after_eq, type_none e'.ty (format_inside e'.format).ty, refl)
  inside_stays true e e' is h i = go e.format (h refl).inside i
    where
      go : (o : Option EntryFormat) → KeepsTextsIn s e o (format_inside e'.format) → InsideItems true e.name e.ty o is → AreInside true e' (format_inside e'.format) (map on_line is)
      go None k i = subst (λ (z : List Item). AreInside true e' (format_inside e'.format) (map on_line z)) (sym i) (none_inside true e' (format_inside e'.format) k)
      go (Some f) k (js, ks, i, j, q) =
          (map on_line js, map on_line ks, key_kept true e.name e'.name f.after_key f.after_eq (format_inside e'.format).after_key (format_inside e'.format).after_eq js (h refl).name k.1 k.2 i, type_kept true e.ty e'.ty (entry_type_texts f) (format_inside e'.format).ty ks (h refl).ty k.0 j, ap (map on_line) q ∙ map-append on_line js ks)

  -- what is laid out holds inside what it held
  same_key : (keep : Bool) (o m o' : Option Identifier) → IsRespelledIf keep o m o' → is_some o' ≡ is_some o
  same_key keep None None None r = refl
  same_key keep (Some i) (Some m) (Some i') r = refl
  same_key keep _ _ _ r = absurd assumption

  form_holds : (keep : Bool) (e : Entry) (t : Text) (o p q : Option EntryFormat) → p ≡ plain_format t e.value → KeptForm keep s e o p q → KeepsTextsIn s e o (format_inside q)
  form_holds keep e t _ p _ h (KeptForm.kept y d k) = (k.ty, k.after_key, k.after_eq)
  form_holds keep e t _ p _ h (KeptForm.bare {f = f} n k) = subst (KeepsTextsIn s e (Some f)) (sym (plain_inside t e.value) ∙ ap format_inside (sym h)) (k.ty, k.after_key, k.after_eq)
  form_holds keep e t _ p _ h (KeptForm.other n k w) = (k.ty, k.after_key, k.after_eq)
  form_holds keep e t _ p _ h KeptForm.formless = ap format_inside h ∙ plain_inside t e.value

  entry_holds : (keep : Keeping) (e m e' : Entry) → keeps_texts keep ≡ true → IsFormattedEntry s e m → IsRespelledEntry keep s e m e' → is_kept_format (with_keep_if s.entry_autoformate_keep e).format ≡ false → HoldsInside s e e'
  entry_holds keep e m e' on (t, k, q) h n = go (subst (λ (b : Bool). HasSpellingsUnless b keep.spelling s e m e') n (subst (λ (b : Bool). HasSpellingsIf b keep.spelling s e m e') on h))
    where
      same : with_keep_if s.entry_autoformate_keep e ≡ e
      same = unflagged_same s.entry_autoformate_keep e n

      laid : m ≡ following t (autoformatted e)
      laid = q ∙ ap (λ (x : Entry). following t (autoformatted x)) same

      go : HasSpellings keep.spelling s e m e' → HoldsInside s e e'
      go r = record {
        name = same_key keep.spelling e.name m.name e'.name r.name;
        ty = same_key keep.spelling e.ty m.ty e'.ty r.ty;
        inside = form_holds keep.spelling e t e.format m.format e'.format (format_is e m t laid (ap (λ (x : Entry). is_kept_format x.format) (sym same) ∙ n)) r.format;
      }

  pub entries_hold : (keep : Keeping) (es ms es' : List Entry) → s.entry_autoformate_keep ≡ false → keeps_texts keep ≡ true → AreFormattedEntries s es ms → AreRespelledEntries keep s es ms es' → EntriesKeepNone es → HoldInside s es es'
  entries_hold keep [] [] [] no_keep on f r n = tt
  entries_hold keep (e ∷ es) (m ∷ ms) (e' ∷ es') no_keep on f r n =
      (entry_holds keep e m e' on f.0 r.0 (ap (λ (b : Bool). is_kept_format (with_keep_if b e).format) no_keep ∙ n.0), entries_hold keep es ms es' no_keep on f.1 r.1 n.1)
  entries_hold keep _ _ _ no_keep on f r n = absurd assumption

  -- the texts around the type of a node
  off_stays : (o o' : Option Identifier) (t x : TypeTexts) (is : List Item) → TypeItems false o t is → TypeItems false o' x (map on_line is)
  off_stays o o' t x is i = subst (λ (z : List Item). TypeItems false o' x (map on_line z)) (sym (type_off o t i)) (type_none o' x)

  typed_holds : (b : Bool) (f : NodeFormat) (m g : Option NodeFormat) (types : TypeTexts) (line line' : NodeFormat) → b ≡ true → m ≡ Some line → g ≡ Some (with_type_texts types line') → IsTypedFormat b f m g → KeptTypeTexts (node_type_texts f) types
  typed_holds false f m g types line line' on l e t = absurd cc
  typed_holds true f m g types line line' on l e (x, k, q) =
      subst (KeptTypeTexts (node_type_texts f)) (sym (ap (λ (o : Option NodeFormat). node_type_texts (or_empty o)) (sym e ∙ q ∙ ap (option_map (with_type_texts x)) l))) k

  pub head_type_stays : (inner : Bool) {number : ℕ} {keep : Keeping} {level : ℕ} {has : Bool} {b : Before} {h h' : Head} → (inner ≡ true → keeps_texts keep ≡ true) → SpelledHead number s keep level has b h h'
      → (l : IsTypedLine number s level has b (or_empty h.format) h'.ty h'.format) (is : List Item) → TypeItems inner h.ty (node_type_texts (or_empty h.format)) is → TypeItems inner h'.ty l.types (map on_line is)
  head_type_stays false {h = h} {h' = h'} on f l is i = off_stays h.ty h'.ty (node_type_texts (or_empty h.format)) l.types is i
  head_type_stays true {keep = keep} {level = level} {h = h} {h' = h'} on f l is i = go h.ty h'.ty (same_key keep.spelling h.ty f.laid.ty h'.ty f.respelled.ty) f.respelled.format i
    where
      go : (o o' : Option Identifier) → is_some o' ≡ is_some o → IsTypedFormat (keeps_texts keep && not s.no_comments && is_some o) (or_empty h.format) f.laid.format h'.format → TypeItems true o (node_type_texts (or_empty h.format)) is
          → TypeItems true o' l.types (map on_line is)
      go None None e t i = ap (map on_line) i
      go (Some o) (Some o') e t i =
          let k = typed_holds (keeps_texts keep && not s.no_comments && is_some (Some o)) (or_empty h.format) f.laid.format h'.format l.types (line_of (indentation s level) f.spaced.format.0) (line_of (indentation s level) l.texts) (rw (on refl, with) refl) f.spaced.format.2 l.is t in
          type_kept true (Some o) (Some o') (node_type_texts (or_empty h.format)) l.types is refl (subst (λ (b : Bool). KeptTypeTextsIf b (node_type_texts (or_empty h.format)) l.types) (sym (keeps (Some o) o refl)) k) i
      go None (Some o') e t i = absurd cc
      go (Some o) None e t i = absurd cc
