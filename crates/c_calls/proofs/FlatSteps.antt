-- Rows that say items, once a row more is written.
use Rattle.std.proofs.Common.{arith, ◌≡◌, ◌+◌, ◌++◌, ◌<◌, ◌≤◌, ℕ, ℤ, List, [], ◌∷◌, append_assoc, ap, ◌∙◌, sym, get_or, length, map, slice_set, take, take_all}
use Rattle.std.proofs.lemmas.List.{map-append, take_more, take_more_set}
use mathlib.Core.Path.{subst}
use Rattle.kdl.specs.Words.{EntryData, NodeData, Value, said_entries, said_type}
use Rattle.kdl_value.specs.Data.{text, integer, float, truth, null}
use Rattle.c_calls.specs.Flat.{Item, RowsSay, SayAll, SaysItem, end_item, entry_item, head_items, node_item}
use Rattle.c_calls.specs.Says.{Grown, SaysValue}
use Rattle.c_calls.specs.declared.row.KdlRow.{KdlRow}
use Rattle.kdl_entry.specs.declared.entry.KdlEntry.{KdlEntry}
use Rattle.c_calls.proofs.SaysSteps.{bytes_kept, key_kept, text_kept, type_kept}

value_kept : (s s' more : List ℕ) (k : ℕ) (z : ℤ) (start len : ℕ) (v : Value) → s' ≡ s ++ more → SaysValue s k z start len v → SaysValue s' k z start len v
value_kept s s' more k z start len (text t) e h = (h.0, text_kept s s' more start len t e h.1)
value_kept s s' more k z start len (integer n) e h = (h.0, λ w. let x = h.1 w in (x.0, bytes_kept s s' more _ start len e x.1))
value_kept s s' more k z start len (float t) e h = (h.0, text_kept s s' more start len t e h.1)
value_kept s s' more k z start len (truth b) e h = h
value_kept s s' more k z start len null e h = h

item_kept : (s s' more : List ℕ) (r : KdlRow) (i : Item) → s' ≡ s ++ more → SaysItem s r i → SaysItem s' r i
item_kept s s' more r (node_item n) e h = record {
  kind = h.kind;
  name = text_kept s s' more r.name_start r.name_len _ e h.name;
  ty = type_kept s s' more r.has_type r.type_start r.type_len (said_type n) e h.ty;
  block = h.block;
}
item_kept s s' more r (entry_item x) e h = record {
  key = key_kept s s' more r.kind r.name_start r.name_len x.key e h.key;
  ty = type_kept s s' more r.has_type r.type_start r.type_len x.ty e h.ty;
  value = value_kept s s' more r.value r.integer r.text_start r.text_len x.value e h.value;
}
item_kept s s' more r end_item e h = h

say_kept : (s s' more : List ℕ) (rs : List KdlRow) (is : List Item) → s' ≡ s ++ more → SayAll s rs is → SayAll s' rs is
say_kept s s' more [] [] e h = h
say_kept s s' more [] (i ∷ is) e h = h
say_kept s s' more (r ∷ rs) [] e h = h
say_kept s s' more (r ∷ rs) (i ∷ is) e h = (item_kept s s' more r i e h.0, say_kept s s' more rs is e h.1)

say_push : (s : List ℕ) (rs : List KdlRow) (is : List Item) (r : KdlRow) (i : Item) → SayAll s rs is → SaysItem s r i → SayAll s (rs ++ r ∷ []) (is ++ i ∷ [])
say_push s [] [] r i h x = (x, tt)
say_push s [] (j ∷ is) r i h x = absurd h
say_push s (q ∷ rs) [] r i h x = absurd h
say_push s (q ∷ rs) (j ∷ is) r i h x = (h.0, say_push s rs is r i h.1 x)

-- a row more, which says one item more
pub said_more : (rows rows' : List KdlRow) (k k' : ℕ) (row : KdlRow) (ss ss' : List ℕ) (u u' : ℕ) (items : List Item) (item : Item)
    → RowsSay rows k ss u items → length ss' ≡ length ss → u ≤ u' → Grown ss u ss' u' → (u' ≤ length ss → SaysItem (take u' ss') row item)
    → length rows' ≡ length rows → (k' ≤ length rows → k' ≡ k + 1) → (k' ≤ length rows → rows' ≡ slice_set rows k row)
    → RowsSay rows' k' ss' u' (items ++ item ∷ [])
said_more rows rows' k k' row ss ss' u u' items item before same more grown says same_rows counted written = λ room fits.
    let r : k' ≤ length rows = omega (arith, room, same_rows) in
    let f : u' ≤ length ss = omega (arith, fits, same) in
    let step : k' ≡ k + 1 = counted r in
    let here : k < length rows = omega (arith, r, step) in
    let g = grown f in
    let old : SayAll (take u ss) (take k rows) items = before (omega (arith, here)) (omega (arith, more, f)) in
    let kept : SayAll (take u' ss') (take k rows) items = say_kept (take u ss) (take u' ss') g.0 (take k rows) items g.1 old in
    let all : SayAll (take u' ss') (take k rows ++ row ∷ []) (items ++ item ∷ []) = say_push (take u' ss') (take k rows) items row item kept (says f) in
    let whole : take k' rows' ≡ take k rows ++ row ∷ [] = ap (λ (i : ℕ). take i rows') step ∙ ap (take (k + 1)) (written r) ∙ take_more_set rows k row here in
    subst (λ (x : List KdlRow). SayAll (take u' ss') x (items ++ item ∷ [])) (sym whole) all

pub none_said : (rows : List KdlRow) (ss : List ℕ) (u : ℕ) → RowsSay rows 0 ss u []
none_said rows ss u = λ _ _. tt

-- an entry more, and all entries
pub entries_more : (items : List Item) (n : NodeData) (f : KdlEntry → EntryData) (es : List KdlEntry) (i : ℕ) (e : KdlEntry) → i < length es → e ≡ get_or es i e
    → (items ++ node_item n ∷ map entry_item (map f (take i es))) ++ entry_item (f e) ∷ [] ≡ items ++ node_item n ∷ map entry_item (map f (take (i + 1) es))
entries_more items n f es i e h is =
    let whole : take (i + 1) es ≡ take i es ++ e ∷ [] = take_more es i e h ∙ ap (λ (x : KdlEntry). take i es ++ x ∷ []) (sym is) in
    let mapped : map entry_item (map f (take (i + 1) es)) ≡ map entry_item (map f (take i es)) ++ entry_item (f e) ∷ [] =
    ap (λ (z : List KdlEntry). map entry_item (map f z)) whole ∙ ap (map entry_item) (map-append f (take i es) (e ∷ [])) ∙ map-append entry_item (map f (take i es)) (f e ∷ []) in
    append_assoc items (node_item n ∷ map entry_item (map f (take i es))) (entry_item (f e) ∷ []) ∙ ap (λ (z : List Item). items ++ node_item n ∷ z) (sym mapped)

pub entries_all : (items : List Item) (n : NodeData) (f : KdlEntry → EntryData) (es : List KdlEntry) (i : ℕ) → length es ≤ i → map f es ≡ said_entries n
    → items ++ node_item n ∷ map entry_item (map f (take i es)) ≡ items ++ head_items n
entries_all items n f es i h e = ap (λ (z : List KdlEntry). items ++ node_item n ∷ map entry_item (map f z)) (take_all i es h) ∙ ap (λ (z : List EntryData). items ++ node_item n ∷ map entry_item z) e
