-- New entries have neither a format nor a spelling.
use Rattle.kdl_laws.proofs.Common.{◌≡◌, ◌∙◌, Option, Some, None, ap, option_map, refl, sym, subst, Text, Value, IsWellFormed, Entry, Identifier}
use Rattle.kdl_entry.specs.Tree.{cleared, plain_entry, plain_identifier, unspelled}
use Rattle.kdl_parts.specs.Edits.{under}
use Rattle.kdl_parts.specs.EntryLists.{Sought, property}
use Rattle.kdl.specs.ReadsBack.{IsUnformed}

pub plain_unformed : (e : Entry) (v : Value) → e ≡ plain_entry None v → IsWellFormed v → IsUnformed e
plain_unformed e v h ok = subst IsUnformed (sym h) (record { plain = refl; value = ok })

-- under a name without a spelling
pub plain_under : (q : Sought) (e : Entry) (s : Text) (v : Value) → q ≡ property (plain_identifier s) → e ≡ plain_entry None v → IsWellFormed v → IsUnformed (under q e)
plain_under q e s v a h ok =
    subst (λ (q : Sought). IsUnformed (under q e)) (sym a) (subst (λ (e : Entry). IsUnformed (under (property (plain_identifier s)) e)) (sym h) (record { plain = refl; value = ok }))

-- with another key, or another type, without a spelling
renamed : (e : Entry) (o : Option Identifier) → option_map unspelled o ≡ o → IsUnformed e → IsUnformed (record e { name = o })
renamed e o h u = record {
  plain = ap (λ (n : Option Identifier). record (cleared e) { name = n }) h ∙ ap (λ (y : Entry). record y { name = o }) u.plain;
  value = u.value;
}

retyped : (e : Entry) (o : Option Identifier) → option_map unspelled o ≡ o → IsUnformed e → IsUnformed (record e { ty = o })
retyped e o h u = record {
  plain = ap (λ (n : Option Identifier). record (cleared e) { ty = n }) h ∙ ap (λ (y : Entry). record y { ty = o }) u.plain;
  value = u.value;
}

plain_own : (i : Identifier) (s : Text) → i ≡ plain_identifier s → option_map unspelled (Some i) ≡ Some i
plain_own i s h = ap (λ (j : Identifier). Some (unspelled j)) h ∙ ap (λ (j : Identifier). Some j) (sym h)

pub named_unformed : (e f : Entry) (i : Identifier) (s : Text) → f ≡ record e { name = Some i } → i ≡ plain_identifier s → IsUnformed e → IsUnformed f
named_unformed e f i s h p u = subst IsUnformed (sym h) (renamed e (Some i) (plain_own i s p) u)

pub unnamed_unformed : (e f : Entry) → f ≡ record e { name = None } → IsUnformed e → IsUnformed f
unnamed_unformed e f h u = subst IsUnformed (sym h) (renamed e None refl u)

pub typed_unformed : (e f : Entry) (i : Identifier) (s : Text) → f ≡ record e { ty = Some i } → i ≡ plain_identifier s → IsUnformed e → IsUnformed f
typed_unformed e f i s h p u = subst IsUnformed (sym h) (retyped e (Some i) (plain_own i s p) u)
