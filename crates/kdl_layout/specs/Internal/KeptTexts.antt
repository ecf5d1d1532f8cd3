-- The texts in memory that layout keeps inside nodes.
use Rattle.std.specs.Prelude.{◌≡◌, ◌⊎◌, ◌&&◌, ◌∷◌, ◌++◌, not, is_some, [], Bool, true, false, Option, Some, None, String, option_map}
use Rattle.kdl_text.specs.Chars.{Text}
use Rattle.kdl_value.specs.Data.{Value}
use Rattle.kdl_value.specs.Print.{print_value}
use Rattle.kdl_value.specs.Tree.{text_of}
use Rattle.kdl_entry.specs.Tree.{Entry, EntryFormat, empty_format}
use Rattle.kdl_grammar.specs.Tree.{NodeFormat}
use Rattle.kdl_layout.specs.Config.{Settings}
use Rattle.kdl_layout.specs.Formatted.{or_empty}
use Rattle.kdl_layout.specs.Respelled.{IsContinued, KeepsForm, TypeTexts, KeptTypeTexts, KeptTypeTextsIf, KeptPlaceIf, NothingInside, bare_inside, entry_type_texts, node_type_texts, with_type_texts}
use Rattle.std.specs.declared.alloc.Global.{Global}

-- the texts around a type in memory, as characters
abbrev pub type_texts_view : String Global × String Global × String Global → TypeTexts
type_texts_view x = record { before_name = text_of x.0; after_name = text_of x.1; after = text_of x.2 }

-- what is kept around the type of a node with this format, if anything is
abbrev pub KeptTypeTextsIn : Bool → Option NodeFormat → Option TypeTexts → Type 0
KeptTypeTextsIn false f None = Unit {0}
KeptTypeTextsIn false f (Some x) = ⊥
KeptTypeTextsIn true f None = ⊥
KeptTypeTextsIn true f (Some x) = KeptTypeTexts (node_type_texts (or_empty f)) x

-- a format with other texts around the type, if there are any
abbrev pub put_type_texts : Option TypeTexts → Option NodeFormat → Option NodeFormat
put_type_texts None o = o
put_type_texts (Some x) o = option_map (with_type_texts x) o

-- the format of an entry that is laid out after a text, without its spelling
abbrev pub plain_format : Text → Value → Option EntryFormat
plain_format [] v = None
plain_format (c ∷ t) v = Some (record empty_format { leading = (c ∷ t) ++ (32 ∷ []); value_repr = print_value v })

-- whether the text before an entry stays, as `keep` says of texts that continue the line
abbrev pub KeepsLeading : Bool → Settings → Text → Bool → Type 0
KeepsLeading keep s t true = (keep ≡ true) × IsContinued s t
KeepsLeading keep s t false = keep ≡ true → IsContinued s t → ⊥

-- g has what is kept inside the entry e with the format f
pub record KeepsInside (s : Settings) (e : Entry) (f g : EntryFormat) : Type 0 where
  pub ty : KeptTypeTextsIf (not s.no_comments && is_some e.ty) (entry_type_texts f) (entry_type_texts g)
  pub after_key : KeptPlaceIf (not s.no_comments && is_some e.name) f.after_key g.after_key
  pub after_eq : KeptPlaceIf (not s.no_comments && is_some e.name) f.after_eq g.after_eq
  pub trailing : g.trailing ≡ []
  pub autoformat_keep : g.autoformat_keep ≡ false

-- the format of the entry e once it is laid out with its spelling, if it has a format
abbrev pub HasForm : Bool → Settings → Entry → Text → Option EntryFormat → Option EntryFormat → Type 0
HasForm keep s e laid None o = o ≡ None
HasForm keep s e laid (Some f) None = ⊥
HasForm keep s e laid (Some f) (Some g) = KeepsForm keep s e f laid f.value_repr g

-- the same without its spelling: the value as it is printed, or the format of an entry after the text t that is kept of
-- the comments before it
abbrev pub HasOtherForm : Bool → Settings → Entry → Text → Option EntryFormat → Option EntryFormat → Type 0
HasOtherForm keep s e t None o = o ≡ plain_format t e.value
HasOtherForm keep s e t (Some f) o =
    (NothingInside s e f × (o ≡ plain_format t e.value)) ⊎ ((g : EntryFormat) × KeepsForm keep s e f (t ++ (32 ∷ [])) (print_value e.value) g × (bare_inside g ≡ false) × (o ≡ Some g))
