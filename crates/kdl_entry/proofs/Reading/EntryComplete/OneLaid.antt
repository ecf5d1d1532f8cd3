-- The entry that the machine returns on a text is the one that is laid in it, and so no other is.
use Rattle.std.proofs.Common.{◌≡◌, true, [], ◌∷◌, Option, Some, refl, sym, ap, subst, ◌∙◌}
use Rattle.kdl_text.specs.Chars.{Text, Star}
use Rattle.kdl_text.specs.Trivia.{LineSpace}
use Rattle.kdl_text.specs.declared.span.SourceSpan.{SourceSpan}
use Rattle.kdl_value.specs.Data.{Value}
use Rattle.kdl_entry.specs.Data as data'
use Rattle.kdl_entry.specs.Entries.{IsPlainValue, IsEntry, BeforeEntry, before_entry, entry_text}
use Rattle.kdl_entry.specs.Internal.EntryMachine.{ended, AnswersEntry}
use Rattle.kdl_entry.specs.Internal.Parts.{TypeParts, type_of, before_name, after_name, after_type, identifier_at}
use Rattle.kdl_entry.specs.Laid.{LaidIdentifier, spelled, LaidType, no_type, a_type, no_key, a_key, LaidItem, item, LaidEntryText, laid_entry_text}
use Rattle.kdl_entry.specs.Laws.{OneLaidIdentifier, OneLaidEntry}
use Rattle.kdl_entry.specs.Places.{span_of, between}
use Rattle.kdl_entry.specs.Tree.{Identifier, Entry}
use Rattle.kdl_entry.proofs.Slicing.Between.{is_between}
use Rattle.kdl_entry.proofs.Laying.LaidIsDerived.{string_of, type_of as maybe_type, item_of, entry_of}
use Rattle.kdl_entry.proofs.Reading.EntryComplete.{read_value, read_item, built}
use Rattle.kdl_entry.proofs.Reading.EntryLaws.{runs_det}
use Rattle.kdl_entry.proofs.Laying.TextUnique.{one_identifier}

-- an identifier that is laid is the string that is there
pub identifier_same : (whole : Text) {s r : Text} {i : Identifier} → LaidIdentifier true whole i s r → identifier_at whole i.value s r ≡ i
identifier_same whole {s = s} {r = r} (spelled {v = v} {p = p} {at = at} d e) = let a : p ≡ between s r = is_between s r p d.text in let b : at ≡ span_of whole s r = e in cc

-- a type and the texts around its name are these, as far as there is one
pub record SameType (y : Option TypeParts) (ty : Option Identifier) (b a h : Text) : Type 0 where
  pub name : type_of y ≡ ty
  pub before : before_name y ≡ b
  pub after : after_name y ≡ a
  pub following : after_type y ≡ h

module _ (whole : Text) where
  -- the type that the machine keeps is the one that is laid
  type_same : {b a h s t r : Text} {ty : Option Identifier} {v : Value} (y : LaidType true whole ty b a h s t) (d : IsPlainValue true t r v)
      → SameType (read_value whole (maybe_type true whole y) d).type ty b a h
  unfolding read_value maybe_type
  type_same no_type d = record { name = refl; before = refl; after = refl; following = refl }
  type_same {b = b} {a = a} {h = h} {t = r} (a_type {s = s} {t = t} {u = u} {v = v} ss n us vs) d = record {
    name = ap Some (identifier_same whole n);
    before = sym (is_between s t b ss.text);
    after = sym (is_between u (41 ∷ v) a us.text);
    following = sym (is_between v r h vs.text);
  }

  -- the entry that the machine makes of a key, a type and a value is the one that is laid
  item_same : {leading trailing s r : Text} {at : SourceSpan} {e : Entry} (i : LaidItem true whole leading trailing at e s r) → at ≡ span_of whole whole []
      → ended whole trailing ((read_item whole (item_of true whole i)).tree leading) ≡ e
  unfolding read_item item_of
  item_same {r = r} (item {repr = repr} {u = u} no_key y v) x = let T = type_same y v.is in let a = T.name in let b = T.before in let c = T.after in let f = T.following in let g : repr ≡ between u r = is_between u r repr v.text in cc
  item_same {r = r} (item {after_key = after_key} {after_eq = after_eq} {repr = repr} {t = t} {u = u} (a_key {t = p} {u = q} {i = i} k ss us) y v) x =
      let T = type_same y v.is in let a = T.name in let b = T.before in let c = T.after in let f = T.following in let g : repr ≡ between u r = is_between u r repr v.text in
      let h = identifier_same whole k in
      let j : after_key ≡ between p (61 ∷ q) = is_between p (61 ∷ q) after_key ss.text in
      let l : after_eq ≡ between q t = is_between q t after_eq us.text in
      cc

-- it is between what is before it and the line-spaces after it
build_same : {t u r : Text} {x : data'.Entry} (b : BeforeEntry true t u) (i : IsEntry true u r x) (zs : Star LineSpace r []) → (built (entry_text b i zs)).tree ≡ ended t (between r []) ((read_item t i).tree (between t u))
unfolding built
build_same (before_entry ls ds) i zs = refl

-- the entry that the machine returns is the one that is laid in the whole text
built_same : (t : Text) (e : Entry) (l : LaidEntryText t e) → (built (entry_of true t e l)).tree ≡ e
unfolding entry_of
built_same t e (laid_entry_text {leading = leading} {trailing = trailing} {t = u} {r = r} b i ls x) =
    let I = read_item t (item_of true t i) in
    build_same b.is (item_of true t i) ls.is
    ∙ ap (λ (z : Text). ended t z (I.tree (between t u))) (sym (is_between r [] trailing ls.text))
    ∙ ap (λ (z : Text). ended t trailing (I.tree z)) (sym (is_between t u leading b.text))
    ∙ item_same t i x

-- what is laid in a text, the machine returns
pub entry_answered : (t : Text) (e : Entry) → LaidEntryText t e → AnswersEntry t e
entry_answered t e l = subst (λ (z : Entry). AnswersEntry t z) (built_same t e l) (built (entry_of true t e l)).answers

-- at most one entry is laid
pub one_laid_entry : OneLaidEntry
one_laid_entry t a b k l = runs_det (entry_answered t a k) (entry_answered t b l)

-- at most one identifier is laid
pub one_laid_identifier : OneLaidIdentifier
one_laid_identifier t i j k l =
    let e : i.value ≡ j.value = one_identifier true t i.value j.value (string_of true t k) (string_of true t l) in
    sym (identifier_same t k) ∙ ap (λ (v : Text). identifier_at t v t []) e ∙ identifier_same t l
