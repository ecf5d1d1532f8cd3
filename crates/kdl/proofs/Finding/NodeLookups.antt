-- What look-ups find, and nodes with one entry changed or pushed.
use Rattle.kdl.proofs.Common.{◌≡◌, ℕ, List, [], ◌∷◌, ◌++◌, length, Option, None, Some, option_map, ap, ◌∙◌, sym, slice_get, Vec, Global, none-some, value_tree, Entry, KdlEntry, KdlValue, with_entries, with_value, set_value_at, set_value_is, entries_of, out-KdlNode, roll-KdlNode, out-roll-KdlNode, KdlNode}
use Rattle.std.proofs.Common.{slice_set}
use Rattle.std.proofs.Math.Seq.{set-append_seam}
use Rattle.kdl_value.specs.Data.{null}
use Rattle.kdl_value.specs.Tree.{or_null}
use Rattle.kdl_parts.specs.Written.{HasProperty, IsPushed}
pub use Rattle.kdl_parts.proofs.EntryLookups.{name_compared}
use Rattle.kdl.proofs.Finding.ListLookups.{get_seam}
use Rattle.kdl.specs.Lookups.{value_there, HasPushed, HasSameEntries, HasWritten}

-- a node with other entries has those
pub with_entries_out : (n : KdlNode) (v : Vec KdlEntry Global) → (out-KdlNode (with_entries n v)).entries ≡ v
with_entries_out n v = ap (λ x. x.entries) (out-roll-KdlNode (record (out-KdlNode n) { entries = v }))

pub with_entries_twice : (n : KdlNode) (u v : Vec KdlEntry Global) → with_entries (with_entries n u) v ≡ with_entries n v
with_entries_twice n u v = ap (λ x. roll-KdlNode (record x { entries = v })) (out-roll-KdlNode (record (out-KdlNode n) { entries = u }))

pushed_at : (s : List ℕ) (es fs : List KdlEntry) (i : ℕ) → i ≡ length es → (p : IsPushed s null es fs) → slice_get fs i ≡ Some p.entry
pushed_at s es fs i e p = ap (slice_get fs) e ∙ ap (λ l. slice_get l (length es)) p.items ∙ get_seam es [] p.entry

written_pushed : (s : List ℕ) (n : KdlNode) (v : Vec KdlEntry Global) (i : ℕ) (w : KdlValue) → i ≡ length (entries_of n) → IsPushed s null (entries_of n) v.items → HasPushed s (value_tree w) n (with_value (with_entries n v) i w)
written_pushed s n v i w e p =
    let m : KdlNode = with_entries n v in
    let changed : KdlEntry = record p.entry { value = w } in
    let after : Vec KdlEntry Global = set_value_at (out-KdlNode m).entries i w in
    let items : after.items ≡ entries_of n ++ (changed ∷ []) =
    ap (λ u. (set_value_at u i w).items) (with_entries_out n v)
    ∙ sym (ap (λ u. u.items) (set_value_is v i p.entry (pushed_at s (entries_of n) v.items i e p) w))
    ∙ ap (λ j. slice_set v.items j changed) e ∙ ap (λ l. slice_set l (length (entries_of n)) changed) p.items ∙ set-append_seam (entries_of n) p.entry [] changed in
    record {
      entries = record {
        entry = changed;
        tree = ap (λ (t : Entry). record t { value = value_tree w }) p.tree;
        items = ap (λ u. u.items) (with_entries_out m after) ∙ items;
      };
      rest = with_entries_twice n v after ∙ ap (with_entries n) (sym (with_entries_out m after));
    }

-- the property that was found or pushed is written
pub written : (o : Option ℕ) (s : List ℕ) (n : KdlNode) (v : Vec KdlEntry Global) (i : ℕ) (w : KdlValue) → HasProperty o s (out-KdlNode n).entries i v → HasWritten o s n w (with_value (with_entries n v) i w)
written None s n v i w h = written_pushed s n v i w h.0 h.1
written (Some k) s n v i w h =
    ap (λ u. with_entries (with_entries n v) (set_value_at u i w)) (with_entries_out n v)
    ∙ with_entries_twice n v (set_value_at v i w)
    ∙ ap (λ u. with_entries n (set_value_at u i w)) h.1 ∙ ap (λ j. with_value n j w) h.0

value_of : (o : Option KdlEntry) (v : KdlValue) → option_map (λ e. e.value) o ≡ Some v → value_tree v ≡ or_null (option_map (λ e. value_tree e.value) o)
value_of None v h = absurd (none-some _ h)
value_of (Some e) v h = ap (λ t. or_null (option_map value_tree t)) (sym h)

value_there_was : (o : Option ℕ) (s : List ℕ) (n : KdlNode) (v : Vec KdlEntry Global) (i : ℕ) (w : KdlValue) → HasProperty o s (out-KdlNode n).entries i v → option_map (λ e. e.value) (slice_get v.items i) ≡ Some w → value_tree w ≡ or_null (value_there o n)
value_there_was None s n v i w h e = value_of _ w e ∙ ap (λ o. or_null (option_map (λ x. value_tree x.value) o)) (pushed_at s (entries_of n) v.items i h.0 h.1) ∙ ap (λ t. t.value) h.1.tree
value_there_was (Some k) s n v i w h e = value_of _ w e ∙ ap (λ j. or_null (option_map (λ x. value_tree x.value) (slice_get v.items j))) h.0 ∙ ap (λ u. or_null (option_map (λ x. value_tree x.value) (slice_get u.items k))) h.1

-- its value is the one that was there, or null
pub value_found : (o : Option ℕ) (s : List ℕ) (n : KdlNode) (v : Vec KdlEntry Global) (i : ℕ) (w : KdlValue) → HasProperty o s (out-KdlNode n).entries i v → option_map (λ e. e.value) (slice_get (entries_of (with_entries n v)) i) ≡ Some w → value_tree w ≡ or_null (value_there o n)
value_found o s n v i w h e = value_there_was o s n v i w h (ap (λ u. option_map (λ e. e.value) (slice_get u.items i)) (sym (with_entries_out n v)) ∙ e)

-- a node with entries that are what they were
pub entries_refused : (n : KdlNode) (v : Vec KdlEntry Global) → v.items ≡ entries_of n → HasSameEntries n (with_entries n v)
entries_refused n v h = record {
  items = ap (λ u. u.items) (with_entries_out n v) ∙ h;
  rest = ap (with_entries n) (sym (with_entries_out n v));
}
