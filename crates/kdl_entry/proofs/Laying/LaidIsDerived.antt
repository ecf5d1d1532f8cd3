-- A text in which an entry or an identifier is laid is derived, with its data.
use Rattle.std.proofs.Common.{Bool, true, Option, option_map}
use Rattle.kdl_text.specs.Chars.{Text}
use Rattle.kdl_text.specs.declared.span.SourceSpan.{SourceSpan}
use Rattle.kdl_entry.specs.Entries.{IsString, parens, MaybeType, untyped, typed, value, IsEntry, property, argument, IsEntryText, entry_text}
use Rattle.kdl_entry.specs.Laid.{LaidIdentifier, spelled, LaidType, no_type, a_type, no_key, a_key, LaidItem, item, LaidEntryTextAs, laid_entry_text}
use Rattle.kdl_entry.specs.Tree.{Identifier, Entry, entry_data}

module _ (exact : Bool) (whole : Text) where
  unfoldable pub string_of : {s r : Text} {i : Identifier} → LaidIdentifier exact whole i s r → IsString true s r i.value
  string_of (spelled p e) = p.is

  unfoldable pub type_of : {before after following s r : Text} {i : Option Identifier} → LaidType exact whole i before after following s r → MaybeType true s r (option_map (λ i. i.value) i)
  type_of no_type = untyped
  type_of (a_type ss d us vs) = typed (parens ss.is (string_of d) us.is) vs.is

  unfoldable pub item_of : {leading trailing s r : Text} {span : SourceSpan} {e : Entry} → LaidItem exact whole leading trailing span e s r → IsEntry true s r (entry_data e)
  item_of (item no_key y v) = argument (value (type_of y) v.is)
  item_of (item (a_key k ss us) y v) = property (string_of k) ss.is us.is (value (type_of y) v.is)

unfoldable pub entry_of : (exact : Bool) (t : Text) (e : Entry) → LaidEntryTextAs exact t e → IsEntryText t (entry_data e)
entry_of exact t e (laid_entry_text b i ls x) = entry_text b.is (item_of exact t i) ls.is
