-- Whether a node meets a test is computed as it is defined.
use Rattle.std.proofs.Common.{◌≡◌, ◌≢◌, ◌-◌, ℕ, zero, suc, Bool, true, false, ◌&&◌, ◌||◌, not, cond, eqb, List, [], ◌∷◌, ◌++◌, length, drop, take, Option, Some, None, MatchOption, slice_get, ◌⊎◌, inl, inr, Decides, refl, ap, ◌∙◌, sym, subst}
use Rattle.std.proofs.lemmas.Bool.Decides.{Decides-and, Decides-by_and, Decides-eqb, Decides-like, Decides-not, Decides-or}
use Rattle.std.proofs.lemmas.Slice.Eq.{bytes_eq-Decides, ends_is, starts_is}
use Rattle.std.specs.List.{All, ends_with, filter, last_or, list_all, list_any, starts_with}
use Rattle.std.specs.Option.{option_map_or}
use Rattle.std.specs.Ordering.{is_eq, is_ge, is_gt, is_le, is_lt}
use Rattle.std.specs.declared.cmp.Ordering.{Ordering}
use Rattle.std.specs.declared.cmp.Ordering.TheVariants.{Less as IsLess, Equal as IsEqual, Greater as IsGreater}
use Rattle.kdl_text.specs.Chars.{Text}
use Rattle.kdl_value.specs.Data.{Value, text, integer, float, truth, null}
use Rattle.kdl_entry.specs.Data.{Entry}
use Rattle.kdl_grammar.specs.Data.{Node}
use Rattle.kdl.specs.Said.{has_key, has_no_key, last_property, nth_argument, said_entries, said_name, said_type}
use Rattle.kdl_parts.specs.EntryLists.{same_text}
use Rattle.kdl_query.specs.Data.{Accessor, Literal, NodeTest, Test, TypeTest, always, any_node, argument, arguments, compares, has, name, of_type, properties, property, some_type, ty, type_named, value}
use Rattle.kdl_query.specs.Decimal.{Number, both_order, exact_order, number_of}
use Rattle.kdl_query.specs.Tests.{BothTexts, Compares, ComparesValue, Finds, HasInfix, HasPrefix, HasSuffix, IsSame, IsTyped, Meets, Tests, as_entry}
use Rattle.kdl_query.specs.Internal.Holds.{any_found, any_property, compares_other, compares_so, compares_string, compares_text, compares_type, compares_value, differs, has_infix, holds, is_last_property, is_named_if, is_same, is_typed, is_typed_if, meets, passes_so, same_truth}
use Rattle.kdl_query.specs.declared.tree.Comparison.{Comparison}
use Rattle.kdl_query.specs.declared.tree.Comparison.TheVariants.{Equal, NotEqual, Greater, GreaterOrEqual, Less, LessOrEqual, StartsWith, EndsWith, Contains}

pub any_node_met : (n : Node) → meets any_node n ≡ true
any_node_met n = refl

-- what cannot be
pub never : (P : Type 0) → (P → ⊥) → Decides false P
never P f = (λ e. absurd (cc), λ h. absurd (f h))

always_so : (P : Type 0) → P → Decides true P
always_so P h = (λ _. h, λ _. refl)

-- what is no number has no order
both_none : (o : Option Number) → both_order None o ≡ None
both_none None = refl
both_none (Some n) = refl

no_order : (v : Value) (k : Ordering) → both_order None (number_of v) ≡ Some k → ⊥
no_order v k e = let h : None ≡ Some k = sym (both_none (number_of v)) ∙ e in cc

-- types
typed_decides : (t : TypeTest) (u : Option Text) → Decides (is_typed t u) (IsTyped t u)
typed_decides some_type u = (λ h. h, λ h. h)
typed_decides (type_named s) None = never (None ≡ Some s) (λ e. cc)
typed_decides (type_named s) (Some v) = Decides-like (same_text v s) (λ e. ap Some e) (λ e. cc) (bytes_eq-Decides v s)

-- values
pub truth_decides : (a b : Bool) → Decides (same_truth a b) (a ≡ b)
truth_decides true true = always_so (true ≡ true) refl
truth_decides true false = never (true ≡ false) (λ e. cc)
truth_decides false true = never (false ≡ true) (λ e. cc)
truth_decides false false = always_so (false ≡ false) refl

eq_decides : (o : Option Ordering) → Decides (option_map_or is_eq o false) (o ≡ Some IsEqual)
eq_decides None = never (None ≡ Some IsEqual) (λ e. cc)
eq_decides (Some IsLess) = never (Some IsLess ≡ Some IsEqual) (λ e. cc)
eq_decides (Some IsEqual) = always_so (Some IsEqual ≡ Some IsEqual) refl
eq_decides (Some IsGreater) = never (Some IsGreater ≡ Some IsEqual) (λ e. cc)

lt_decides : (o : Option Ordering) → Decides (option_map_or is_lt o false) (o ≡ Some IsLess)
lt_decides None = never (None ≡ Some IsLess) (λ e. cc)
lt_decides (Some IsLess) = always_so (Some IsLess ≡ Some IsLess) refl
lt_decides (Some IsEqual) = never (Some IsEqual ≡ Some IsLess) (λ e. cc)
lt_decides (Some IsGreater) = never (Some IsGreater ≡ Some IsLess) (λ e. cc)

gt_decides : (o : Option Ordering) → Decides (option_map_or is_gt o false) (o ≡ Some IsGreater)
gt_decides None = never (None ≡ Some IsGreater) (λ e. cc)
gt_decides (Some IsLess) = never (Some IsLess ≡ Some IsGreater) (λ e. cc)
gt_decides (Some IsEqual) = never (Some IsEqual ≡ Some IsGreater) (λ e. cc)
gt_decides (Some IsGreater) = always_so (Some IsGreater ≡ Some IsGreater) refl

either_decides : (a b c : Bool) (P Q : Type 0) → Decides a P → Decides b Q → c ≡ (a || b) → Decides c (P ⊎ Q)
either_decides a b c P Q d e h = let F : Bool → Type 0 = λ r. Decides r (P ⊎ Q) in subst F (sym h) (Decides-or a b d e)

le_decides : (o : Option Ordering) → Decides (option_map_or is_le o false) ((o ≡ Some IsLess) ⊎ (o ≡ Some IsEqual))
le_decides o = either_decides (option_map_or is_lt o false) (option_map_or is_eq o false) (option_map_or is_le o false) (o ≡ Some IsLess) (o ≡ Some IsEqual) (lt_decides o) (eq_decides o) (parts o)
  where
    parts : (o : Option Ordering) → option_map_or is_le o false ≡ (option_map_or is_lt o false || option_map_or is_eq o false)
    parts None = refl
    parts (Some IsLess) = refl
    parts (Some IsEqual) = refl
    parts (Some IsGreater) = refl

ge_decides : (o : Option Ordering) → Decides (option_map_or is_ge o false) ((o ≡ Some IsGreater) ⊎ (o ≡ Some IsEqual))
ge_decides o = either_decides (option_map_or is_gt o false) (option_map_or is_eq o false) (option_map_or is_ge o false) (o ≡ Some IsGreater) (o ≡ Some IsEqual) (gt_decides o) (eq_decides o) (parts o)
  where
    parts : (o : Option Ordering) → option_map_or is_ge o false ≡ (option_map_or is_gt o false || option_map_or is_eq o false)
    parts None = refl
    parts (Some IsLess) = refl
    parts (Some IsEqual) = refl
    parts (Some IsGreater) = refl

truth_decided : (b : Bool) (v : Value) → Decides (is_same (truth b) v) (IsSame (truth b) v)
unfolding exact_order
truth_decided b (text s) = never (exact_order (truth b) (text s) ≡ Some IsEqual) (no_order (text s) IsEqual)
truth_decided b (integer z) = never (exact_order (truth b) (integer z) ≡ Some IsEqual) (no_order (integer z) IsEqual)
truth_decided b (float t) = never (exact_order (truth b) (float t) ≡ Some IsEqual) (no_order (float t) IsEqual)
truth_decided b (truth c) = truth_decides b c
truth_decided b null = never (exact_order (truth b) null ≡ Some IsEqual) (no_order null IsEqual)

null_decided : (v : Value) → Decides (is_same null v) (IsSame null v)
unfolding exact_order
null_decided (text s) = never (exact_order null (text s) ≡ Some IsEqual) (no_order (text s) IsEqual)
null_decided (integer z) = never (exact_order null (integer z) ≡ Some IsEqual) (no_order (integer z) IsEqual)
null_decided (float t) = never (exact_order null (float t) ≡ Some IsEqual) (no_order (float t) IsEqual)
null_decided (truth b) = never (exact_order null (truth b) ≡ Some IsEqual) (no_order (truth b) IsEqual)
null_decided null = always_so (Unit {0}) tt

same_decides : (a v : Value) → ((s : Text) → a ≢ text s) → Decides (is_same a v) (IsSame a v)
same_decides (text s) v f = absurd (f s refl)
same_decides (integer z) v f = eq_decides (exact_order (integer z) v)
same_decides (float t) v f = eq_decides (exact_order (float t) v)
same_decides (truth b) v f = truth_decided b v
same_decides null v f = null_decided v

no_texts : (R : Text → Text → Type 0) (a v : Value) → ((s : Text) → a ≢ text s) → BothTexts R a v → ⊥
no_texts R (text s) v f h = f s refl
no_texts R (integer z) v f h = h
no_texts R (float t) v f h = h
no_texts R (truth b) v f h = h
no_texts R null v f h = h

other_decides : (c : Comparison) (a v : Value) → ((s : Text) → a ≢ text s) → Decides (compares_other c a v) (ComparesValue c a v)
other_decides Equal a v f = same_decides a v f
other_decides NotEqual a v f = Decides-not (is_same a v) (same_decides a v f)
other_decides Greater a v f = gt_decides (exact_order a v)
other_decides GreaterOrEqual a v f = ge_decides (exact_order a v)
other_decides Less a v f = lt_decides (exact_order a v)
other_decides LessOrEqual a v f = le_decides (exact_order a v)
other_decides StartsWith a v f = never (BothTexts HasPrefix a v) (no_texts HasPrefix a v f)
other_decides EndsWith a v f = never (BothTexts HasSuffix a v) (no_texts HasSuffix a v f)
other_decides Contains a v f = never (BothTexts HasInfix a v) (no_texts HasInfix a v f)

-- texts
pub prefix_decides : (a v : Text) → Decides (starts_with eqb a v) (HasPrefix a v)
prefix_decides a v = let w = starts_is Decides-eqb a v (starts_with eqb a v) refl in (λ e. (drop (length v) a, w.0 e), λ h. w.1 h.0 h.1)

pub suffix_decides : (a v : Text) → Decides (ends_with eqb a v) (HasSuffix a v)
suffix_decides a v = let w = ends_is Decides-eqb a v (ends_with eqb a v) refl in (λ e. (take (length a - length v) a, w.0 e), λ h. w.1 h.0 h.1)

infix_cases : (c : ℕ) (a v p r : Text) → c ∷ a ≡ p ++ (v ++ r) → HasPrefix (c ∷ a) v ⊎ HasInfix a v
infix_cases c a v [] r e = inl (r, e)
infix_cases c a v (d ∷ p) r e = inr (p, r, cc)

infix_none : (v p r : Text) → [] ≡ p ++ (v ++ r) → HasPrefix [] v
infix_none v [] r e = (r, e)
infix_none v (d ∷ p) r e = absurd (cc)

pub infix_decides : (a v : Text) → Decides (has_infix a v) (HasInfix a v)
infix_decides [] v = Decides-like (starts_with eqb [] v) (λ h. ([], h.0, h.1)) (λ h. infix_none v h.0 h.1 h.2) (prefix_decides [] v)
infix_decides (c ∷ a) v =
    Decides-like (starts_with eqb (c ∷ a) v || has_infix a v) (λ h. elim h [ inl p ↦ ([], p.0, p.1) | inr i ↦ (c ∷ i.0, i.1, ap (λ l. c ∷ l) i.2) ]) (λ h. infix_cases c a v h.0 h.1 h.2)
    (Decides-or (starts_with eqb (c ∷ a) v) (has_infix a v) (prefix_decides (c ∷ a) v) (infix_decides a v))

text_decides : (c : Comparison) (a v : Text) → Decides (compares_text c a v) (ComparesValue c (text a) (text v))
unfolding exact_order
text_decides Equal a v = bytes_eq-Decides a v
text_decides NotEqual a v = Decides-not (same_text a v) (bytes_eq-Decides a v)
text_decides Greater a v = never _ (no_order (text v) IsGreater)
text_decides GreaterOrEqual a v = never _ (λ h. elim h [ inl e ↦ no_order (text v) IsGreater e | inr e ↦ no_order (text v) IsEqual e ])
text_decides Less a v = never _ (no_order (text v) IsLess)
text_decides LessOrEqual a v = never _ (λ h. elim h [ inl e ↦ no_order (text v) IsLess e | inr e ↦ no_order (text v) IsEqual e ])
text_decides StartsWith a v = prefix_decides a v
text_decides EndsWith a v = suffix_decides a v
text_decides Contains a v = infix_decides a v

differs_decides : (c : Comparison) (a : Text) (v : Value) → (IsSame (text a) v → ⊥) → ((R : Text → Text → Type 0) → BothTexts R (text a) v → ⊥) → Decides (differs c) (ComparesValue c (text a) v)
unfolding exact_order
differs_decides Equal a v f g = never _ f
differs_decides NotEqual a v f g = always_so _ f
differs_decides Greater a v f g = never _ (no_order v IsGreater)
differs_decides GreaterOrEqual a v f g = never _ (λ h. elim h [ inl e ↦ no_order v IsGreater e | inr e ↦ no_order v IsEqual e ])
differs_decides Less a v f g = never _ (no_order v IsLess)
differs_decides LessOrEqual a v f g = never _ (λ h. elim h [ inl e ↦ no_order v IsLess e | inr e ↦ no_order v IsEqual e ])
differs_decides StartsWith a v f g = never _ (g HasPrefix)
differs_decides EndsWith a v f g = never _ (g HasSuffix)
differs_decides Contains a v f g = never _ (g HasInfix)

string_decides : (c : Comparison) (a : Text) (v : Value) → Decides (compares_string c a v) (ComparesValue c (text a) v)
unfolding exact_order
string_decides c a (text v) = text_decides c a v
string_decides c a (integer z) = differs_decides c a (integer z) (no_order (integer z) IsEqual) (λ R h. h)
string_decides c a (float t) = differs_decides c a (float t) (no_order (float t) IsEqual) (λ R h. h)
string_decides c a (truth b) = differs_decides c a (truth b) (no_order (truth b) IsEqual) (λ R h. h)
string_decides c a null = differs_decides c a null (no_order null IsEqual) (λ R h. h)

value_decides : (c : Comparison) (a v : Value) → Decides (compares_value c a v) (ComparesValue c a v)
value_decides c (text a) v = string_decides c a v
value_decides c (integer z) v = other_decides c (integer z) v (λ s e. cc)
value_decides c (float t) v = other_decides c (float t) v (λ s e. cc)
value_decides c (truth b) v = other_decides c (truth b) v (λ s e. cc)
value_decides c null v = other_decides c null v (λ s e. cc)

type_decides : (c : Comparison) (t : TypeTest) (e : Entry) → Decides (compares_type c t e.ty) (Compares c (of_type t) e)
type_decides Equal t e = typed_decides t e.ty
type_decides NotEqual t e = Decides-not (is_typed t e.ty) (typed_decides t e.ty)
type_decides Greater t e = never ⊥ (λ h. h)
type_decides GreaterOrEqual t e = never ⊥ (λ h. h)
type_decides Less t e = never ⊥ (λ h. h)
type_decides LessOrEqual t e = never ⊥ (λ h. h)
type_decides StartsWith t e = never ⊥ (λ h. h)
type_decides EndsWith t e = never ⊥ (λ h. h)
type_decides Contains t e = never ⊥ (λ h. h)

compares_decides : (c : Comparison) (l : Literal) (e : Entry) → Decides (compares_so c l e) (Compares c l e)
compares_decides c (value v) e = value_decides c e.value v
compares_decides c (of_type t) e = type_decides c t e

-- one entry that is found
one_found : (p : Entry → Bool) (P : Entry → Type 0) → ((e : Entry) → Decides (p e) (P e)) → (o : Option Entry) → Decides (option_map_or p o false) ((e : Entry) × (o ≡ Some e) × P e)
one_found p P d None = never _ (λ w. let e : None ≡ Some w.0 = w.1 in cc)
one_found p P d (Some x) = Decides-like (p x) (λ h. (x, refl, h)) (λ w. let e : w.0 ≡ x = cc (w.1) in subst P e w.2) (d x)

type_found : (p : Entry → Bool) (P : Entry → Type 0) → ((e : Entry) → Decides (p e) (P e)) → (o : Option Text)
    → Decides (option_map_or (λ t. p (as_entry t)) o false) ((e : Entry) × ((t : Text) × (o ≡ Some t) × (e ≡ as_entry t)) × P e)
type_found p P d None = never _ (λ w. let e : None ≡ Some w.1.0 = w.1.1 in cc)
type_found p P d (Some s) =
    Decides-like (p (as_entry s)) (λ h. (as_entry s, (s, refl, refl), h)) (λ w. let e : w.1.0 ≡ s = cc (w.1.1) in subst P (w.1.2 ∙ ap as_entry e) w.2) (d (as_entry s))

-- the arguments
abbrev Nth : (Entry → Type 0) → List Entry → Type 0
Nth P fs = (e : Entry) × ((i : ℕ) × (slice_get fs i ≡ Some e)) × P e

nth_cases : (P : Entry → Type 0) (x : Entry) (fs : List Entry) (e : Entry) (i : ℕ) → slice_get (x ∷ fs) i ≡ Some e → P e → P x ⊎ Nth P fs
nth_cases P x fs e zero g h = let s : e ≡ x = cc in inl (subst P s h)
nth_cases P x fs e (suc i) g h = inr (e, (i, g), h)

nth_decides : (P : Entry → Type 0) (x : Entry) (fs : List Entry) (b q r : Bool) → Decides q (P x) → Decides r (Nth P fs) → Decides ((b && q) || r) (Nth P (cond b (x ∷ fs) fs))
nth_decides P x fs true q r d e =
    Decides-like (q || r) (λ h. elim h [ inl y ↦ (x, (0, refl), y) | inr w ↦ (w.0, (suc w.1.0, w.1.1), w.2) ]) (λ w. nth_cases P x fs w.0 w.1.0 w.1.1 w.2) (Decides-or q r d e)
nth_decides P x fs false q r d e = e

arguments_found : (p : Entry → Bool) (P : Entry → Type 0) → ((e : Entry) → Decides (p e) (P e)) → (es : List Entry) → Decides (list_any (λ e. has_no_key e && p e) es) (Nth P (filter has_no_key es))
arguments_found p P d [] = never _ (λ w. let e : None ≡ Some w.0 = w.1.1 in cc)
arguments_found p P d (x ∷ es) = nth_decides P x (filter has_no_key es) (has_no_key x) (p x) (list_any (λ e. has_no_key e && p e) es) (d x) (arguments_found p P d es)

-- the properties
abbrev Last : (Entry → Type 0) → List Entry → Type 0
Last P es = (e : Entry) × ((k : Text) × (last_or None (filter (has_key k) es) ≡ Some e)) × P e

none_here : (b r : Bool) (x : Entry) (fs : List Entry) → (r ≡ false → fs ≡ []) → (b || r) ≡ false → cond b (x ∷ fs) fs ≡ []
none_here true r x fs f g = absurd (cc)
none_here false r x fs f g = f g

any_here : (b r : Bool) (x : Entry) (fs : List Entry) → (fs ≡ [] → r ≡ false) → cond b (x ∷ fs) fs ≡ [] → (b || r) ≡ false
any_here true r x fs f g = absurd (cc)
any_here false r x fs f g = f g

none_left : (q : Entry → Bool) (es : List Entry) → list_any q es ≡ false → filter q es ≡ []
none_left q [] h = refl
none_left q (x ∷ es) h = none_here (q x) (list_any q es) x (filter q es) (none_left q es) h

not_any : (q : Entry → Bool) (es : List Entry) → filter q es ≡ [] → list_any q es ≡ false
not_any q [] h = refl
not_any q (x ∷ es) h = any_here (q x) (list_any q es) x (filter q es) (not_any q es) h

last_cases : (x e : Entry) (fs : List Entry) (b : Bool) → last_or None (cond b (x ∷ fs) fs) ≡ Some e → ((b ≡ true) × (fs ≡ []) × (x ≡ e)) ⊎ (last_or None fs ≡ Some e)
last_cases x e [] true g = inl (refl, refl, cc)
last_cases x e (y ∷ fs) true g = inr g
last_cases x e fs false g = inr g

last_kept : (x e : Entry) (fs : List Entry) (b : Bool) → last_or None fs ≡ Some e → last_or None (cond b (x ∷ fs) fs) ≡ Some e
last_kept x e [] true g = absurd (cc)
last_kept x e (y ∷ fs) true g = g
last_kept x e fs false g = g

-- a property, and none of its name comes after it
abbrev IsLast : Option Text → List Entry → Type 0
IsLast o es = (k : Text) × (option_map_or (λ j. same_text j k) o false ≡ true) × (filter (has_key k) es ≡ [])

from_not : (b : Bool) → not b ≡ true → b ≡ false
from_not true e = sym e
from_not false e = refl

is_last_decides : (o : Option Text) (es : List Entry) → Decides (option_map_or (λ k. not (list_any (has_key k) es)) o false) (IsLast o es)
is_last_decides None es = never _ (λ w. let e : false ≡ true = w.1 in cc)
is_last_decides (Some j) es = (
  λ h. (j, (bytes_eq-Decides j j).1 refl, none_left (has_key j) es (from_not (list_any (has_key j) es) h)),
  λ w. let e : j ≡ w.0 = (bytes_eq-Decides j w.0).0 w.1 in ap not (not_any (has_key j) es (ap (λ k. filter (has_key k) es) e ∙ w.2)),
)

from_last : (P : Entry → Type 0) (x : Entry) (es : List Entry) → (P x × IsLast x.key es) ⊎ Last P es → Last P (x ∷ es)
from_last P x es (inl w) =
    let k = w.1.0 in
    (x, (k, ap (λ b. last_or None (cond b (x ∷ filter (has_key k) es) (filter (has_key k) es))) w.1.1 ∙ ap (λ l. last_or (Some x) l) w.1.2), w.0)
from_last P x es (inr w) = (w.0, (w.1.0, last_kept x w.0 (filter (has_key w.1.0) es) (has_key w.1.0 x) w.1.1), w.2)

to_last : (P : Entry → Type 0) (x : Entry) (es : List Entry) → Last P (x ∷ es) → (P x × IsLast x.key es) ⊎ Last P es
to_last P x es w =
    elim (last_cases x w.0 (filter (has_key w.1.0) es) (has_key w.1.0 x) w.1.1) [ inl c ↦ inl (subst P (sym c.2) w.2, (w.1.0, c.0, c.1)) | inr g ↦ inr (w.0, (w.1.0, g), w.2) ]

properties_found : (p : Entry → Bool) (P : Entry → Type 0) → ((e : Entry) → Decides (p e) (P e)) → (es : List Entry) → Decides (any_property p es) (Last P es)
properties_found p P d [] = never _ (λ w. let e : None ≡ Some w.0 = w.1.1 in cc)
properties_found p P d (x ∷ es) =
    Decides-like ((p x && is_last_property x es) || any_property p es) (from_last P x es) (to_last P x es)
    (Decides-or (p x && is_last_property x es) (any_property p es) (Decides-and (p x) (is_last_property x es) (d x) (is_last_decides x.key es)) (properties_found p P d es))

-- all that an accessor finds
found_decides : (p : Entry → Bool) (P : Entry → Type 0) → ((e : Entry) → Decides (p e) (P e)) → (a : Accessor) (n : Node) → Decides (any_found p a n) ((e : Entry) × Finds a n e × P e)
found_decides p P d (argument i) n = one_found p P d (nth_argument i n)
found_decides p P d (property k) n = one_found p P d (last_property k n)
found_decides p P d name n = Decides-like (p (as_entry (said_name n))) (λ h. (as_entry (said_name n), refl, h)) (λ w. subst P w.1 w.2) (d (as_entry (said_name n)))
found_decides p P d ty n = type_found p P d (said_type n)
found_decides p P d arguments n = arguments_found p P d (said_entries n)
found_decides p P d properties n = properties_found p P d (said_entries n)

test_decides : (t : Test) (n : Node) → Decides (holds t n) (Tests t n)
test_decides always n = always_so (Unit {0}) tt
test_decides (has a) n = Decides-like (holds (has a) n) (λ w. (w.0, w.1)) (λ w. (w.0, w.1, tt)) (found_decides (passes_so None) (λ e. Unit {0}) (λ e. always_so (Unit {0}) tt) a n)
test_decides (compares a c l) n = found_decides (passes_so (Some (c, l))) (Compares c l) (compares_decides c l) a n

-- the whole test of a node
type_if_decides : (o : Option TypeTest) (u : Option Text) → Decides (is_typed_if o u) (MatchOption o (Unit {0}) (λ s. IsTyped s u))
type_if_decides None u = always_so (Unit {0}) tt
type_if_decides (Some t) u = typed_decides t u

name_if_decides : (o : Option Text) (u : Text) → Decides (is_named_if o u) (MatchOption o (Unit {0}) (λ s. u ≡ s))
name_if_decides None u = always_so (Unit {0}) tt
name_if_decides (Some s) u = bytes_eq-Decides u s

pub meets_decides : (t : NodeTest) (n : Node) → Decides (meets t n) (Meets t n)
meets_decides t n =
    let a = is_named_if t.name (said_name n) in
    let b = is_typed_if t.ty (said_type n) in
    let c = list_all (λ u. holds u n) t.tests in
    let tests : Decides c (All (λ u. Tests u n) t.tests) = Decides-by_and (λ u. holds u n) (λ u. Tests u n) (list_all (λ u. holds u n)) (λ u. test_decides u n) refl (λ _ _. refl) t.tests in
    Decides-like (a && b && c) (λ w. record { ty = w.0.1; name = w.0.0; tests = w.1 }) (λ m. ((m.name, m.ty), m.tests))
    (Decides-and (a && b) c (Decides-and a b (name_if_decides t.name (said_name n)) (type_if_decides t.ty (said_type n))) tests)
