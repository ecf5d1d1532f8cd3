-- Edits that are written.
use Rattle.std.proofs.Common.{arith, ◌≡◌, ◌++◌, ◌∷◌, ◌∙◌, ◌+◌, ◌<◌, ◌≤◌, [], ℕ, List, Option, ap, chars, codes, flat_map, fold, get_or, inl, inr, length, map, refl, sym, take}
use Rattle.std.proofs.lemmas.Grind.{flat_map-append}
use Rattle.std.proofs.lemmas.List.{append-nil, append_assoc, take_all, take_more}
use Rattle.json.specs.Token.{Token, begin_array, end_array}
use Rattle.json.specs.Print.{print, print_from, escape_byte}
use Rattle.lsp.specs.Formatting.{IsEditsTo, IsFormatting, edit_tokens, edits_tokens}
use Rattle.lsp.specs.Internal.Nesting.{End, Items, Nesting, Start, after_token}
use Rattle.lsp_text.specs.Lines.{all_edited, edit_of}
use Rattle.lsp_text.specs.Positions.{Text}
use Rattle.lsp_text.specs.declared.edit.Edit.{Edit}
use Rattle.lsp_text.specs.declared.position.Encoding.{Encoding}

abbrev one : Edit → List Token
one d = edit_tokens d.range d.text.now

-- one more edit is written
pub edit_written : (a b c : List Token) (ds : List Edit) (i : ℕ) (d : Edit) → i < length ds → b ≡ a ++ flat_map one (take i ds) → c ≡ b ++ one (get_or ds i d) → c ≡ a ++ flat_map one (take (i + 1) ds)
edit_written a b c ds i d inside old new =
    let x = get_or ds i d in
    let whole : flat_map one (take i ds) ++ one x ≡ flat_map one (take (i + 1) ds) =
    ap (λ t. flat_map one (take i ds) ++ t) (sym (append-nil (one x))) ∙ sym (flat_map-append one (take i ds) (x ∷ [])) ∙ ap (flat_map one) (sym (take_more ds i d inside)) in
    new ∙ ap (λ t. t ++ one x) old ∙ append_assoc a (flat_map one (take i ds)) (one x) ∙ ap (λ t. a ++ t) whole

-- all are
pub all_written : (a b c e : List Token) (ds : List Edit) (i : ℕ) → b ≡ a ++ begin_array ∷ [] → length ds ≤ i → c ≡ b ++ flat_map one (take i ds) → e ≡ c ++ end_array ∷ [] → e ≡ a ++ edits_tokens ds
all_written a b c e ds i begins ends old new =
    let all : flat_map one (take i ds) ≡ flat_map one ds = ap (flat_map one) (take_all i ds ends) in
    new ∙ ap (λ t. t ++ end_array ∷ []) (old ∙ ap (λ t. t ++ flat_map one (take i ds)) begins ∙ append_assoc a (begin_array ∷ []) (flat_map one (take i ds)) ∙ ap (λ t. a ++ begin_array ∷ t) all)
    ∙ append_assoc a (begin_array ∷ flat_map one ds) (end_array ∷ [])

-- edits are a value
edits_items : (n : Nesting) (ds : List Edit) → fold after_token (Items n) (flat_map one ds ++ end_array ∷ []) ≡ n
edits_items n [] = refl
edits_items n (d ∷ ds) = edits_items n ds

pub edits_end : (ds : List Edit) → fold after_token Start (edits_tokens ds) ≡ End
edits_end ds = edits_items End ds

-- ---- what formatting does not give

-- a text that is null or edits has a first byte
pub some_formatting : (e : Encoding) (indent : Option ℕ) (text : List ℕ) → IsFormatting e indent text [] → ⊥
unfolding print_from escape_byte
some_formatting e indent text (inl n) = let h : 0 ≡ 4 = ap length n.1 in absurd (omega (arith, h))
some_formatting e indent text (inr f) = let h : 0 ≡ 91 = ap (λ b. get_or b 0 0) f.2.3 in absurd (omega (arith, h))

-- no edits leave the text as it is
unedited : (e : Encoding) (text new : Text) (ds : List Edit) → (text ≡ new → ⊥) → all_edited e (map edit_of ds) text ≡ new → codes "[]" ≡ print (edits_tokens ds) → ⊥
unfolding print_from escape_byte
unedited e text new [] other applied is = other applied
unedited e text new (d ∷ ds) other applied is = let h : 93 ≡ 123 = ap (λ b. get_or b 1 0) is in absurd (omega (arith, h))

pub some_edits : (e : Encoding) (text new : List ℕ) → (chars text ≡ chars new → ⊥) → IsEditsTo e text new (codes "[]") → ⊥
some_edits e text new other (ds, applied, lines, is) = unedited e (chars text) (chars new) ds other applied is
