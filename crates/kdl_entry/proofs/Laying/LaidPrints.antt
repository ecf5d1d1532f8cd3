-- A laid identifier or entry prints its text.
use Rattle.std.proofs.Common.{◌≡◌, Bool, [], ◌∷◌, ◌++◌, Option, refl, sym, ap, ◌∙◌, append_assoc, append-nil}
use Rattle.kdl_text.specs.Chars.{Text}
use Rattle.kdl_text.specs.declared.span.SourceSpan.{SourceSpan}
use Rattle.kdl_entry.specs.Laid.{LaidIdentifier, spelled, LaidType, no_type, a_type, LaidKey, no_key, a_key, LaidItem, item, LaidEntry, laid_entry, LaidEntryTextAs, laid_entry_text}
use Rattle.kdl_entry.specs.Print.{print_identifier, print_type, print_key, print_entry}
use Rattle.kdl_entry.specs.Tree.{Identifier, Entry}

module _ (exact : Bool) (whole : Text) where
  pub identifier_printed : {i : Identifier} {s r : Text} → LaidIdentifier exact whole i s r → s ≡ print_identifier i ++ r
  identifier_printed (spelled p e) = p.text

  pub type_printed : {i : Option Identifier} {b a h s r : Text} → LaidType exact whole i b a h s r → s ≡ print_type i b a ++ (h ++ r)
  type_printed no_type = refl
  type_printed (a_type {before = b} {after = a} {following = h} {i = i} ss d us vs) =
      ap (λ (x : Text). 40 ∷ x) (ss.text ∙ ap (λ (x : Text). b ++ x) (identifier_printed d ∙ ap (λ (x : Text). print_identifier i ++ x) (us.text ∙ ap (λ (x : Text). a ++ (41 ∷ x)) vs.text)))
      ∙ simp append_assoc

  pub key_printed : {i : Option Identifier} {b h s r : Text} → LaidKey exact whole i b h s r → s ≡ print_key i b h ++ r
  key_printed no_key = refl
  key_printed (a_key {before = b} {following = h} {i = i} d ss us) =
      identifier_printed d ∙ ap (λ (x : Text). print_identifier i ++ x) (ss.text ∙ ap (λ (x : Text). b ++ (61 ∷ x)) us.text) ∙ simp append_assoc

  pub item_printed : {leading trailing s t : Text} {at : SourceSpan} {e : Entry} → LaidItem exact whole leading trailing at e s t → (r : Text) → t ≡ trailing ++ r → leading ++ s ≡ print_entry e ++ r
  item_printed {leading = leading} {trailing = trailing} (item {after_key = ak} {after_eq = ae} {before = b} {after = a} {following = h} {repr = q} {key = k} {ty = y} d e v) r x =
      ap (λ (z : Text). leading ++ z) (key_printed d ∙ ap (λ (z : Text). print_key k ak ae ++ z) (type_printed e ∙ ap (λ (z : Text). print_type y b a ++ (h ++ z)) (v.text ∙ ap (λ (z : Text). q ++ z) x)))
      ∙ simp append_assoc

  pub entry_printed : {e : Entry} {s r : Text} → LaidEntry exact whole e s r → s ≡ print_entry e ++ r
  entry_printed {r = r} (laid_entry l i x) = l.text ∙ item_printed i r refl

pub entry_text_printed : (exact : Bool) (t : Text) (e : Entry) → LaidEntryTextAs exact t e → print_entry e ≡ t
entry_text_printed exact t e (laid_entry_text l i ls x) = sym (l.text ∙ item_printed exact t i [] ls.text ∙ append-nil (print_entry e))
