-- Identifiers and entries located in a text: their spellings and places, in the order of printing, are the text, and each is what it has to be.
-- If `exact` holds, each span is that of its piece in the text `whole`.
use Rattle.std.specs.Prelude.{Bool, true, false, [], ◌∷◌, Option, Some, None}
use Rattle.kdl_text.specs.Chars.{Text, Star}
use Rattle.kdl_text.specs.Trivia.{NodeSpace, LineSpace}
use Rattle.kdl_text.specs.declared.span.SourceSpan.{SourceSpan}
use Rattle.kdl_value.specs.Data.{Value}
use Rattle.kdl_entry.specs.Entries.{IsString, IsPlainValue, BeforeEntry}
use Rattle.kdl_entry.specs.Places.{Is, EntryLeading, Spanned, span_of}
use Rattle.kdl_entry.specs.Tree.{Identifier, Entry}

-- a string and its spelling
pub data LaidIdentifier (exact : Bool) (whole : Text) : Identifier → Text → Text → Type 0 where
  spelled : {v p s r : Text} {at : SourceSpan} → Is (λ s r. IsString true s r v) p s r → Spanned exact at (span_of whole s r)
      → LaidIdentifier exact whole (record { value = v; repr = Some p; span = at }) s r

-- a type with the texts before its name, after it, and after the `)`; these are empty if there is no type
pub data LaidType (exact : Bool) (whole : Text) : Option Identifier → Text → Text → Text → Text → Text → Type 0 where
  no_type : {s : Text} → LaidType exact whole None [] [] [] s s
  a_type : {before after following s t u v r : Text} {i : Identifier} → Is (Star NodeSpace) before s t → LaidIdentifier exact whole i t u → Is (Star NodeSpace) after u (41 ∷ v)
      → Is (Star NodeSpace) following v r → LaidType exact whole (Some i) before after following (40 ∷ s) r

-- a key, `=`, and the texts before and after the `=`; these are empty if there is no key
pub data LaidKey (exact : Bool) (whole : Text) : Option Identifier → Text → Text → Text → Text → Type 0 where
  no_key : {s : Text} → LaidKey exact whole None [] [] s s
  a_key : {before following s t u r : Text} {i : Identifier} → LaidIdentifier exact whole i s t → Is (Star NodeSpace) before t (61 ∷ u) → Is (Star NodeSpace) following u r
      → LaidKey exact whole (Some i) before following s r

-- an entry without what comes before and after it: key, type, and the spelling of its value
pub data LaidItem (exact : Bool) (whole leading trailing : Text) (at : SourceSpan) : Entry → Text → Text → Type 0 where
  item : {after_key after_eq before after following repr s t u r : Text} {key ty : Option Identifier} {v : Value}
      → LaidKey exact whole key after_key after_eq s t → LaidType exact whole ty before after following t u → Is (λ s r. IsPlainValue true s r v) repr u r
      → LaidItem exact whole leading trailing at (record {
        ty = ty;
        value = v;
        name = key;
        format = Some (record {
          value_repr = repr;
          leading = leading;
          trailing = trailing;
          after_ty = following;
          before_ty_name = before;
          after_ty_name = after;
          after_key = after_key;
          after_eq = after_eq;
          autoformat_keep = false;
        });
        span = at;
      }) s r

-- an entry in a node; its span is its text without what comes before it
pub data LaidEntry (exact : Bool) (whole : Text) : Entry → Text → Text → Type 0 where
  laid_entry : {leading s t r : Text} {at : SourceSpan} {e : Entry} → Is EntryLeading leading s t → LaidItem exact whole leading [] at e t r → Spanned exact at (span_of whole t r)
      → LaidEntry exact whole e s r

-- an identifier that is the whole text
abbrev pub LaidIdentifierTextAs : Bool → Identifier → Text → Type 0
LaidIdentifierTextAs exact i t = LaidIdentifier exact t i t []

-- the same with its span
abbrev pub LaidIdentifierText : Identifier → Text → Type 0
LaidIdentifierText i t = LaidIdentifierTextAs true i t

-- an entry that is the whole text, which is its span
pub data LaidEntryTextAs (exact : Bool) (whole : Text) : Entry → Type 0 where
  laid_entry_text : {leading trailing t r : Text} {at : SourceSpan} {e : Entry} → Is (BeforeEntry true) leading whole t → LaidItem exact whole leading trailing at e t r
      → Is (Star LineSpace) trailing r [] → Spanned exact at (span_of whole whole []) → LaidEntryTextAs exact whole e

-- the same with its spans
abbrev pub LaidEntryText : Text → Entry → Type 0
LaidEntryText t e = LaidEntryTextAs true t e
