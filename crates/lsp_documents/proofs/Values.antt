-- Values as numbers, positions and changes.
use Rattle.std.proofs.Common.{arith, zero, suc, codes, true, chars, IsTrue, refl, ◌≡◌, ◌∙◌, ℕ, ◌+◌, ◌<◌, Option, None, Some, List, [], ◌∷◌, ◌++◌, IsSomeAnd, length, map, option_and_then, slice_index_or, sym, ap, subst, take}
use Rattle.std.proofs.lemmas.List.{map-append, take_more}
use Rattle.std.specs.Option.{option_map_or}
use Rattle.fast_float.specs.Text.{scan, tens_down}
use Rattle.json.specs.Find.{get, is_null, as_number, as_str}
use Rattle.json.specs.Json.{Json, null, boolean, number, string, array, object, Items, no_items, item}
use Rattle.json.specs.Value.{items_of}
use Rattle.lsp_documents.specs.Notes.{AreChanges, HasChanges, IsChange, IsNatural, IsNumber, IsPosition, IsRange, IsRangeIf}
use Rattle.lsp_documents.proofs.Numbers.{same_factor}
use Rattle.lsp_text.specs.declared.change.Change.{Change}
use Rattle.lsp_text.specs.declared.position.Position.{Position}
use Rattle.lsp_text.specs.declared.position.Range.{Range}
use Rattle.lsp_text.specs.Positions.{Text, change_of}

-- values and one more are changes and one more
pub one_more : (js : List Json) (j : Json) (cs : List (Option Range × Text)) (c : Option Range × Text) → AreChanges (items_of js) cs → IsChange j c → AreChanges (items_of (js ++ j ∷ [])) (cs ++ c ∷ [])
one_more [] j [] c all one = (one, tt)
one_more [] j (d ∷ ds) c all one = elim all [ ]
one_more (k ∷ js) j [] c all one = elim all [ ]
one_more (k ∷ js) j (d ∷ ds) c all one = (all.0, one_more js j ds c all.1 one)

-- the values up to one more are the changes up to one more
pub next_change : {A : Type 0} (f : A → Json) (values : List A) (i : ℕ) (v : A) (cs all : List Change) (c : Change) → i < length values → v ≡ slice_index_or values i v
    → AreChanges (items_of (map f (take i values))) (map change_of cs) → IsChange (f v) (change_of c) → all ≡ cs ++ c ∷ []
    → AreChanges (items_of (map f (take (i + 1) values))) (map change_of all)
next_change f values i v cs all c inside is so_far one pushed =
    let jsons : map f (take (i + 1) values) ≡ map f (take i values) ++ f v ∷ [] =
    ap (map f) (take_more values i v inside) ∙ map-append f (take i values) (slice_index_or values i v ∷ []) ∙ ap (λ w. map f (take i values) ++ f w ∷ []) (sym is) in
    let changes : map change_of all ≡ map change_of cs ++ change_of c ∷ [] = ap (map change_of) pushed ∙ map-append change_of cs (c ∷ []) in
    subst (λ js. AreChanges (items_of js) (map change_of all)) (sym jsons)
    (subst (λ ds. AreChanges (items_of (map f (take i values) ++ f v ∷ [])) ds) (sym changes)
    (one_more (map f (take i values)) (f v) (map change_of cs) (change_of c) so_far one))

-- there is one value of which a property of the value in an `Option` holds
one_of : {A B : Type 0} (o : Option A) (P Q : A → Type 0) (x y : B) → ((a : A) → P a → Q a → x ≡ y) → IsSomeAnd o P → IsSomeAnd o Q → x ≡ y
one_of None P Q x y each p q = elim p [ ]
one_of (Some a) P Q x y each p q = each a p q

-- the text of a number is one whole number
pub one_natural : (text : List ℕ) (m n : ℕ) → IsNatural text m → IsNatural text n → m ≡ n
one_natural text m n p q = same_factor m n (tens_down (scan text)) (p.1 ∙ sym q.1)

one_number : (name : List ℕ) (j : Json) (m n : ℕ) → IsNumber name j m → IsNumber name j n → m ≡ n
one_number name j m n = one_of (option_and_then as_number (get name j)) (λ s. IsNatural s m) (λ s. IsNatural s n) m n (λ s p q. one_natural s m n p q)

abbrev place : ℕ → ℕ → Position
place l c = record { line = l; character = c }

abbrev between : Position → Position → Range
between p q = record { start = p; end = q }

one_position : (j : Json) (p q : Position) → IsPosition j p → IsPosition j q → p ≡ q
one_position j p q a b = ap (λ l. place l p.character) (one_number (codes "line") j p.line q.line a.0 b.0) ∙ ap (place q.line) (one_number (codes "character") j p.character q.character a.1 b.1)

one_range : (j : Json) (r s : Range) → IsRange j r → IsRange j s → r ≡ s
one_range j r s a b =
    ap (λ p. between p r.end) (one_of (get (codes "start") j) (λ v. IsPosition v r.start) (λ v. IsPosition v s.start) r.start s.start (λ v. one_position v r.start s.start) a.0 b.0)
    ∙ ap (between s.start) (one_of (get (codes "end") j) (λ v. IsPosition v r.end) (λ v. IsPosition v s.end) r.end s.end (λ v. one_position v r.end s.end) a.1 b.1)

-- null has no range
null_no_range : (o : Option Json) (r : Range) → IsTrue (option_map_or is_null o true) → IsSomeAnd o (λ j. IsRange j r) → ⊥
null_no_range None r no_value range = range
null_no_range (Some null) r no_value range = range.0
null_no_range (Some (boolean b)) r no_value range = range.0
null_no_range (Some (number s)) r no_value range = range.0
null_no_range (Some (string s)) r no_value range = range.0
null_no_range (Some (array js)) r no_value range = range.0
null_no_range (Some (object ms)) r no_value range = absurd (cc)

one_range_if : (o : Option Json) (r s : Option Range) → IsRangeIf o r → IsRangeIf o s → r ≡ s
one_range_if o None None a b = refl
one_range_if o None (Some s) a b = absurd (null_no_range o s a b)
one_range_if o (Some r) None a b = absurd (null_no_range o r b a)
one_range_if o (Some r) (Some s) a b = ap Some (one_of o (λ j. IsRange j r) (λ j. IsRange j s) r s (λ j. one_range j r s) a b)

one_change : (j : Json) (c d : Option Range × Text) → IsChange j c → IsChange j d → c ≡ d
one_change j c d a b =
    ap (λ r. (r, c.1)) (one_range_if (get (codes "range") j) c.0 d.0 a.0 b.0)
    ∙ ap (λ t. (d.0, t)) (one_of (option_and_then as_str (get (codes "text") j)) (λ s. chars s ≡ c.1) (λ s. chars s ≡ d.1) c.1 d.1 (λ s p q. sym p ∙ q) a.1 b.1)

one_list : (js : Items) (cs ds : List (Option Range × Text)) → AreChanges js cs → AreChanges js ds → cs ≡ ds
one_list no_items [] [] a b = refl
one_list no_items [] (d ∷ ds) a b = elim b [ ]
one_list no_items (c ∷ cs) ds a b = elim a [ ]
one_list (item j js) [] ds a b = elim a [ ]
one_list (item j js) (c ∷ cs) [] a b = elim b [ ]
one_list (item j js) (c ∷ cs) (d ∷ ds) a b = ap (λ x. x ∷ cs) (one_change j c d a.0 b.0) ∙ ap (λ xs. d ∷ xs) (one_list js cs ds a.1 b.1)

abbrev array_inside : Json → Items → Items
array_inside null js = js
array_inside (boolean b) js = js
array_inside (number s) js = js
array_inside (string s) js = js
array_inside (array is) js = is
array_inside (object ms) js = js

-- parameters have one list of changes
pub one_list_of_changes : (params : Json) (cs ds : List (Option Range × Text)) → HasChanges params cs → HasChanges params ds → cs ≡ ds
one_list_of_changes params cs ds a b =
    let same : Some (array a.0) ≡ Some (array b.0) = sym a.1 ∙ b.1 in
    let items : a.0 ≡ b.0 = ap (λ o. option_map_or (λ j. array_inside j a.0) o a.0) same in
    one_list b.0 cs ds (subst (λ js. AreChanges js cs) items a.2) b.2

-- each value is a change, where all are changes
pub change_at : {A : Type 0} (f : A → Json) (values : List A) (i : ℕ) (v : A) (cs : List (Option Range × Text)) → i < length values → v ≡ slice_index_or values i v
    → AreChanges (items_of (map f values)) cs → (c : Option Range × Text) × IsChange (f v) c
change_at f [] i v cs inside is each = absurd (omega (arith, inside))
change_at f (x ∷ xs) i v [] inside is each = elim each [ ]
change_at f (x ∷ xs) zero v (d ∷ ds) inside is each = (d, subst (λ y. IsChange (f y) d) (sym is) each.0)
change_at f (x ∷ xs) (suc i) v (d ∷ ds) inside is each = change_at f xs i v ds (omega (arith, inside)) is each.1

-- the changes that parameters have are those of their values
pub changes_of_items : (params : Json) (js : Items) (cs : List (Option Range × Text)) → get (codes "contentChanges") params ≡ Some (array js) → HasChanges params cs → AreChanges js cs
changes_of_items params js cs got has =
    let same : Some (array has.0) ≡ Some (array js) = sym has.1 ∙ got in
    let items : has.0 ≡ js = ap (λ o. option_map_or (λ j. array_inside j has.0) o has.0) same in
    subst (λ is. AreChanges is cs) items has.2
