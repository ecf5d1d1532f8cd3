-- An entry without format and spelling, with the form that it prints, is laid before every text with a value end.
use Rattle.std.proofs.Common.{◌≡◌, true, false, [], ◌∷◌, ◌++◌, Option, Some, None, option_map, refl, subst, ◌∙◌, append-nil}
use Rattle.std.specs.Prelude.{IfSome}
use Rattle.std.specs.List.{list_all}
use Rattle.kdl_text.specs.Chars.{Text, is_scalar, is_space, Star, plus}
use Rattle.kdl_text.specs.Trivia.{NodeSpace, Ws, ValueEnd}
use Rattle.kdl_entry.specs.Data as data'
use Rattle.kdl_value.specs.Data.{Value}
use Rattle.kdl_entry.specs.Entries.{IsString, IsPlainValue, IsEntry, IsEntryText, entry_text, before_entry, IsIdentifierText}
use Rattle.kdl_value.specs.WellFormed.{IsWellFormed}
use Rattle.kdl_entry.specs.Formless.{IsFormless, formed_identifier, formed, FormlessReadsBack}
use Rattle.kdl_entry.specs.Laid.{LaidIdentifier, spelled as spelled_as, LaidType, no_type, a_type, LaidKey, no_key, a_key, LaidItem, item, LaidEntry, laid_entry}
use Rattle.kdl_entry.specs.Places.{Is, EntryLeading, leading}
use Rattle.kdl_value.specs.Print.{print_value}
use Rattle.kdl_entry.specs.Print.{print_identifier, print_entry}
use Rattle.kdl_value.specs.Spelled.{spelled}
use Rattle.kdl_entry.specs.Tree.{Identifier, unspelled, cleared, Entry, entry_data}
use Rattle.kdl_entry.proofs.Laying.LaidIsDerived.{item_of}
use Rattle.kdl_entry.proofs.Moving.EntryMoves.{punctuation_end}
use Rattle.kdl_entry.proofs.Laying.FormedPrints.{same_data, space_before}
use Rattle.kdl_entry.proofs.Laying.LaidPrints.{entry_printed}
use Rattle.kdl_entry.proofs.Laying.ValueReadsBack.{printed_string, printed_value}

-- a space before an entry
one_space : (s : Text) → Is EntryLeading (32 ∷ []) (32 ∷ s) s
unfolding is_space
one_space s = record { is = leading Star.none (plus (NodeSpace.ws (Ws.space (Rattle.kdl_text.specs.Chars.Space.space refl))) Star.none); text = refl }

no_space : (s : Text) → Is (Star NodeSpace) [] s s
no_space s = record { is = Star.none; text = refl }

AreScalars : Option Identifier → Type 0
AreScalars i = IfSome i (λ i. list_all is_scalar i.value ≡ true)

module _ (whole : Text) where
  identifier_laid : (i : Identifier) (u : Text) → list_all is_scalar i.value ≡ true → ValueEnd true u
      → LaidIdentifier false whole (formed_identifier (unspelled i)) (print_identifier (unspelled i) ++ u) u
  identifier_laid i u ok e = spelled_as (record { is = printed_string i.value u ok e; text = refl }) tt

  record TypeStands (i : Option Identifier) (u : Text) : Type 0 where
    text : Text
    laid : LaidType false whole (option_map formed_identifier (option_map unspelled i)) [] [] [] text u

  type_stands : (i : Option Identifier) (u : Text) → AreScalars i → TypeStands i u
  unfolding AreScalars
  type_stands None u ok = record { text = u; laid = no_type }
  type_stands (Some i) u ok = record {
    text = 40 ∷ print_identifier (unspelled i) ++ (41 ∷ u);
    laid = a_type (no_space _) (identifier_laid i (41 ∷ u) ok (punctuation_end 41 refl)) (no_space _) (no_space _);
  }

  record KeyStands (i : Option Identifier) (u : Text) : Type 0 where
    text : Text
    laid : LaidKey false whole (option_map formed_identifier (option_map unspelled i)) [] [] text u

  key_stands : (i : Option Identifier) (u : Text) → AreScalars i → KeyStands i u
  unfolding AreScalars
  key_stands None u ok = record { text = u; laid = no_key }
  key_stands (Some i) u ok = record {
    text = print_identifier (unspelled i) ++ (61 ∷ u);
    laid = a_key (identifier_laid i (61 ∷ u) ok (punctuation_end 61 refl)) (no_space _) (no_space _);
  }

  value_laid : (v : Value) (u : Text) → IsWellFormed v → ValueEnd true u → Is (λ s r. IsPlainValue true s r v) (print_value v) (print_value v ++ u) u
  value_laid v u ok e = record { is = printed_value v u ok e; text = refl }

  item_stands : (e : Entry) (u : Text) → AreScalars e.name → AreScalars e.ty → IsWellFormed e.value → ValueEnd true u
      → (t : Text) × LaidItem false whole (32 ∷ []) [] e.span (formed (cleared e)) t u
  item_stands e u key ty ok end =
      let v = value_laid e.value u ok end in
      let y = type_stands e.ty (print_value e.value ++ u) ty in
      let k = key_stands e.name y.text key in
      (k.text, item k.laid y.laid v)

  pub formless_stands : (e : Entry) (u : Text) → IsFormless e → ValueEnd true u → LaidEntry false whole (formed e) (print_entry (formed e) ++ u) u
  unfolding AreScalars
  formless_stands e u f end =
      let x = item_stands e u f.key f.ty f.value end in
      let d : LaidEntry false whole (formed (cleared e)) (32 ∷ x.0) u = laid_entry (one_space x.0) x.1 tt in
      subst (λ (e : Entry). LaidEntry false whole (formed e) (print_entry (formed e) ++ u) u) f.plain
      (subst (λ (t : Text). LaidEntry false whole (formed (cleared e)) t u) (entry_printed false whole d) d)

-- and what it prints alone is an entry
formless_entry : (e : Entry) → IsFormless e → IsEntryText (print_entry e) (entry_data e)
unfolding AreScalars
formless_entry e f =
    let x = item_stands [] e [] f.key f.ty f.value ValueEnd.nothing in
    let d : LaidEntry false [] (formed (cleared e)) (32 ∷ x.0) [] = laid_entry (one_space x.0) x.1 tt in
    let printed : 32 ∷ x.0 ≡ 32 ∷ print_entry (cleared e) = entry_printed false [] d ∙ append-nil (print_entry (formed (cleared e))) ∙ space_before (cleared e) refl in
    let text : x.0 ≡ print_entry (cleared e) = cc in
    let i : IsEntry true x.0 [] (entry_data (cleared e)) = subst (λ (y : data'.Entry). IsEntry true x.0 [] y) (same_data (cleared e)) (item_of false [] x.1) in
    subst (λ (e : Entry). IsEntryText (print_entry e) (entry_data e)) f.plain
    (subst (λ (t : Text). IsEntryText t (entry_data (cleared e))) text (entry_text (before_entry Star.none Star.none) i Star.none))

spelled_identifier : (s : Text) → list_all is_scalar s ≡ true → IsIdentifierText (spelled s) s
spelled_identifier s ok = subst (λ (t : Text). IsString true t [] s) (append-nil (spelled s)) (printed_string s [] ok ValueEnd.nothing)

pub formless_reads_back : FormlessReadsBack
formless_reads_back = (spelled_identifier, formless_entry)
