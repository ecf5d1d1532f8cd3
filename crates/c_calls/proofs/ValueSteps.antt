-- Texts that are values, and the entries that are laid in them.
use Rattle.std.proofs.Common.{◌≡◌, ◌==◌, ◌++◌, ◌∙◌, ℕ, Bool, List, [], ◌∷◌, None, Some, IfSome, append-nil, ap, eq-eqb, eqb-true, sym, refl, subst, length, suc, true, false}
use Rattle.std.specs.Str.{IsUtf8, chars, encode_utf8_all}
use Rattle.std.proofs.lemmas.Str.{chars-nil, encodes-chars}
use Rattle.kdl_text.specs.Chars.{Text, none}
use Rattle.kdl_value.specs.Data.{Value}
use Rattle.kdl_entry.specs.Entries.{IsPlainValue, IsEntryText, argument, before_entry, entry_text, untyped, value}
use Rattle.kdl_entry.specs.Laid.{LaidEntryText, a_key, a_type, item, laid_entry_text, no_key, no_type}
use Rattle.kdl_entry.specs.Places.{span_of}
use Rattle.kdl_entry.specs.Tree.{Entry}
use Rattle.kdl_entry.proofs.Reading.EntryComplete.OneLaid.{one_laid_entry}
use Rattle.c_calls.specs.Entries.{IsValueText}
use Rattle.c_calls.specs.Internal.Values.{is_nil, is_value}

not_nil : (t : Text) → (t ≡ [] → ⊥) → false ≡ is_nil t
not_nil [] h = absurd (h refl)
not_nil (c ∷ t) h = refl

-- a text is empty exactly where it has no bytes
pub nil_bytes : (b : Bool) (bs : List ℕ) → IsUtf8 bs → b ≡ (length bs == 0) → b ≡ is_nil (chars bs)
nil_bytes true [] u e = ap is_nil (sym chars-nil)
nil_bytes false [] u e = let f = eq-eqb 0 0 refl in absurd (cc)
nil_bytes true (x ∷ bs) u e = let z : suc (length bs) ≡ 0 = eqb-true (length (x ∷ bs)) 0 (sym e) in absurd (cc)
nil_bytes false (x ∷ bs) u e = not_nil (chars (x ∷ bs)) (λ z. let f : x ∷ bs ≡ [] = sym (encodes-chars (x ∷ bs) u) ∙ ap encode_utf8_all z in cc)

-- a text that is a value is an entry
pub value_is_entry : (t : Text) (v : Value) → IsValueText t v → IsEntryText t (record { key = None; ty = None; value = v })
value_is_entry t v d = entry_text (before_entry none none) (argument (value untyped d)) none

-- the entry that is the value alone
alone : Text → Value → Entry
alone t v = record {
  ty = None;
  value = v;
  name = None;
  format = Some (record { value_repr = t; leading = []; trailing = []; after_ty = []; before_ty_name = []; after_ty_name = []; after_key = []; after_eq = []; autoformat_keep = false });
  span = span_of t t [];
}

alone_laid : (t : Text) (v : Value) → IsValueText t v → LaidEntryText t (alone t v)
unfolding alone
alone_laid t v d = laid_entry_text (record { is = before_entry none none; text = refl }) (item no_key no_type (record { is = d; text = sym (append-nil t) })) (record { is = none; text = refl }) refl

-- the entry that is laid in a text that is a value is that value alone
pub laid_in_value : (t : Text) (v : Value) (e : Entry) → LaidEntryText t e → IsValueText t v → is_value e ≡ true
unfolding alone
laid_in_value t v e l d = subst (λ (x : Entry). is_value x ≡ true) (one_laid_entry t (alone t v) e (alone_laid t v d) l) refl

-- a text in which a value alone is laid is that value, and its spelling
pub value_laid : (t : Text) (e : Entry) → LaidEntryText t e → is_value e ≡ true → IsValueText t e.value × ((s : Text) → IfSome e.format (λ f. s ≡ f.value_repr) → s ≡ t)
value_laid t e (laid_entry_text {leading = []} {trailing = []} {t = u} {r = r} b (item {repr = repr} no_key no_type d) ls x) h =
    let at : IsPlainValue true t [] e.value = subst (λ (s : Text). IsPlainValue true s [] e.value) (sym b.text) (subst (λ (s : Text). IsPlainValue true u s e.value) ls.text d.is) in
    (at, λ s z. z ∙ sym (b.text ∙ d.text ∙ ap (λ (s : Text). repr ++ s) ls.text ∙ append-nil repr))
value_laid t e (laid_entry_text {leading = []} {trailing = c ∷ cs} b (item no_key no_type d) ls x) h = absurd (cc)
value_laid t e (laid_entry_text {leading = c ∷ cs} b (item no_key no_type d) ls x) h = absurd (cc)
value_laid t e (laid_entry_text b (item no_key (a_type p n q r) d) ls x) h = absurd (cc)
value_laid t e (laid_entry_text b (item (a_key k p q) y d) ls x) h = absurd (cc)
