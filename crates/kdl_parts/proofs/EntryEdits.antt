-- What edits of a list of entries leave.
use Rattle.kdl_parts.proofs.Common.{◌≡◌, ℕ, ◌+◌, ◌<◌, List, ◌∷◌, ◌++◌, ap, ◌∙◌, sym, length, take, drop, set, is_some, true, false, Option, None, Some, option_map, unwrap_or, refl, add-one, arith, drop_all, take_all, insert, Identifier, Entry, entry_tree, identifier_tree, KdlIdentifier, KdlEntry, property, place_of}
use Rattle.std.proofs.lemmas.List.{set_split}
use Rattle.kdl_parts.specs.Edits.{under, put_for, replaced_place, inserted}
use Rattle.kdl_parts.specs.EntryLists.{sought, there}
use Rattle.kdl_parts.specs.declared.key.NodeKey.{NodeKey}
use Rattle.kdl_parts.specs.declared.key.NodeKey.TheVariants.{Key, Index}

-- a list around its element at i
pub set_around : {A : Type 0} (xs : List A) (i : ℕ) (y : A) → i < length xs → set xs i y ≡ take i xs ++ (y ∷ drop (i + 1) xs)
set_around xs i y h = set_split xs i y h ∙ ap (λ k. take i xs ++ (y ∷ drop k xs)) (sym (add-one i))

-- the name that an entry takes
pub own_name : {A : Type 0} (f : A → Identifier) (o : Option A) (e : Entry) (k : Identifier) → option_map f o ≡ e.name → is_some o ≡ true → e ≡ under (property k) e
own_name f None e k h t = absurd (cc)
own_name f (Some a) e k h t =
    let q : e.name ≡ Some (unwrap_or e.name k) = sym h ∙ ap (λ o. Some (unwrap_or o k)) h in
    ap (λ o. record e { name = o }) q

pub given_name : {A : Type 0} (f : A → Identifier) (o : Option A) (e : Entry) (k : Identifier) → option_map f o ≡ e.name → is_some o ≡ false → record e { name = Some k } ≡ under (property k) e
given_name f None e k h t = ap (λ o. record e { name = Some (unwrap_or o k) }) h
given_name f (Some a) e k h t = absurd (cc)

-- an insertion by name, and by index, by the place that was found
pub key_put : (key : NodeKey) (k : KdlIdentifier) (o : Option ℕ) (f : KdlEntry) (es : List KdlEntry) → key ≡ Key k → o ≡ place_of key es → put_for o f es ≡ inserted key f es
key_put key k o f es e p = rw (p, e) refl

pub index_put : (key : NodeKey) (i : ℕ) (o : Option ℕ) (f : KdlEntry) (es : List KdlEntry) → key ≡ Index i → o ≡ place_of key es → insert es (unwrap_or o (length es)) f ≡ inserted key f es
index_put key i (Some k) f es e p = rw (e, ← (p ∙ ap (λ k. place_of k es) e)) refl
index_put key i None f es e p = rw (e, ← (p ∙ ap (λ k. place_of k es) e), take_all (length es) es (omega arith), drop_all (length es) es (omega arith)) refl

pub key_replaced : (key : NodeKey) (k : KdlIdentifier) (o : Option ℕ) (es : List KdlEntry) → key ≡ Key k → o ≡ place_of key es → there o es ≡ there (replaced_place key es) es
key_replaced key k o es e p = rw (p, e) refl

pub key_under : (key : NodeKey) (k : KdlIdentifier) (f : KdlEntry) (t : Entry) → key ≡ Key k → entry_tree f ≡ under (property (identifier_tree k)) t → entry_tree f ≡ under (sought key) t
key_under key k f t e h = rw e h

pub index_under : (key : NodeKey) (i : ℕ) (t : Entry) → key ≡ Index i → t ≡ under (sought key) t
index_under key i t e = rw e refl
