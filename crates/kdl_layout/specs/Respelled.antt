-- The result of layout if spellings or comments inside entries and types are kept: after layout as without that, comments
-- inside an entry or a type are put back. If spellings are kept, so is each spelling that means what it did, and so are
-- lines that an entry continues.
use Rattle.std.specs.Prelude.{◌≡◌, ℕ, Bool, true, false, ◌&&◌, not, is_some, List, [], ◌∷◌, Option, Some, None, option_map}
use Rattle.kdl_text.specs.Chars.{Text}
use Rattle.kdl_value.specs.Data.{Value}
use Rattle.kdl_value.specs.Print.{print_value}
use Rattle.kdl_entry.specs.Entries.{IsPlainValue, IsIdentifierText}
use Rattle.kdl_entry.specs.Tree.{Identifier, EntryFormat, Entry}
use Rattle.kdl_grammar.specs.Tree.{NodeFormat, Head, Node, node, Children, no_children, children, Document, document, Nodes, none, first}
use Rattle.kdl_layout.specs.Items.{before_entry, PlaceItems}
use Rattle.kdl_layout.specs.Lacks.{AreNodeSpaces}
use Rattle.kdl_layout.specs.Config.{Settings, Keeping, keeps_texts}
use Rattle.kdl_layout.specs.Formatted.{or_empty, with_keep_if}
use Rattle.kdl_layout.specs.Kept.{is_kept_format}
use Rattle.kdl_layout.specs.Plain.{no_newline, only_spaces}
use Rattle.kdl_layout.specs.Spaced.{IsSpacedNode, IsSpacedDocument}
use Rattle.kdl_layout.specs.Written.{line_text}
use Rattle.kdl_layout.specs.Parts.{AreFormattedEntries, IsFormattedEntry}
use Rattle.kdl_layout.specs.declared.blank.Before.{Before}

-- the whole text is one spelling of the value: a string, a number or a keyword
abbrev pub IsSpelling : Value → Text → Type 0
IsSpelling v t = IsPlainValue true t [] v

-- of the spelling of a string s, what is kept: the spelling if it is one of s, else nothing
pub data KeptSpelling (s : Text) : Option Text → Option Text → Type 0 where
  kept : {t : Text} → IsIdentifierText t s → KeptSpelling s (Some t) (Some t)
  other : {t : Text} → (IsIdentifierText t s → ⊥) → KeptSpelling s (Some t) None
  unspelled : KeptSpelling s None None

-- i' is m, the identifier i as it was laid out, with the spelling of i if spellings are kept
abbrev pub IsRespelled : Bool → Identifier → Identifier → Identifier → Type 0
IsRespelled false i m i' = i' ≡ m
IsRespelled true i m i' = (r : Option Text) × KeptSpelling i.value i.repr r × (i' ≡ record m { repr = r })

-- the same of a key or a type, if there is one
abbrev pub IsRespelledIf : Bool → Option Identifier → Option Identifier → Option Identifier → Type 0
IsRespelledIf keep None None None = Unit {0}
IsRespelledIf keep (Some i) (Some m) (Some i') = IsRespelled keep i m i'
IsRespelledIf keep _ _ _ = ⊥

-- the text that an entry with this format prints before it in a node
abbrev pub text_before : Option EntryFormat → Text
text_before None = 32 ∷ []
text_before (Some f) = f.leading

-- a text with more in it than spaces, such as a comment, that may be between any two parts of an entry or a type
abbrev pub IsCommented : Text → Type 0
IsCommented t = AreNodeSpaces t × (only_spaces t ≡ false)

-- of a text between two parts, what is kept: the text, with LF for a CR at its end, if it is such a text, else nothing
pub data KeptPlace (t : Text) : Text → Type 0 where
  kept : IsCommented (line_text t) → KeptPlace t (line_text t)
  other : (IsCommented (line_text t) → ⊥) → KeptPlace t []

-- the same if `keep` is true, else nothing
abbrev pub KeptPlaceIf : Bool → Text → Text → Type 0
KeptPlaceIf false t r = r ≡ []
KeptPlaceIf true t r = KeptPlace t r

-- a text before an entry that continues the line, without slashdashed entries, and without comments if they are removed
pub record IsContinued (s : Settings) (t : Text) : Type 0 where
  pub spaces : AreNodeSpaces t
  pub newline : no_newline t ≡ false
  pub no_items : s.no_comments ≡ true → PlaceItems (before_entry false) t []

-- the text before an entry: the old one if it continues the line, else the one that layout leaves
pub data KeptLeading (s : Settings) (old laid : Text) : Text → Type 0 where
  continued : IsContinued s old → KeptLeading s old laid old
  other : (IsContinued s old → ⊥) → KeptLeading s old laid laid

-- the same if `keep` is true, else the one that layout leaves
abbrev pub KeptLeadingIf : Bool → Settings → Text → Text → Text → Type 0
KeptLeadingIf false s old laid r = r ≡ laid
KeptLeadingIf true s old laid r = KeptLeading s old laid r

-- the texts around a type: after its `(`, before its `)`, and after it
pub record TypeTexts : Type 0 where
  pub before_name : Text
  pub after_name : Text
  pub after : Text

-- what is kept of them
pub record KeptTypeTexts (old x : TypeTexts) : Type 0 where
  pub before_name : KeptPlace old.before_name x.before_name
  pub after_name : KeptPlace old.after_name x.after_name
  pub after : KeptPlace old.after x.after

-- the same if `keep` is true, else nothing
abbrev pub KeptTypeTextsIf : Bool → TypeTexts → TypeTexts → Type 0
KeptTypeTextsIf false old x = x ≡ record { before_name = []; after_name = []; after = [] }
KeptTypeTextsIf true old x = KeptTypeTexts old x

-- the texts around the type of an entry
abbrev pub entry_type_texts : EntryFormat → TypeTexts
entry_type_texts f = record { before_name = f.before_ty_name; after_name = f.after_ty_name; after = f.after_ty }

-- g is the format of the entry e once it is laid out, if its format was f, `laid` is the text that layout leaves before
-- it, and `value` is the text of its value; the texts around a type are kept if there is one, and those around `=` if
-- there is a key, unless comments are removed; if `keep` is true, so is a text before it that continues the line
pub record KeepsForm (keep : Bool) (s : Settings) (e : Entry) (f : EntryFormat) (laid value : Text) (g : EntryFormat) : Type 0 where
  pub leading : KeptLeadingIf keep s f.leading laid g.leading
  pub value_repr : g.value_repr ≡ value
  pub ty : KeptTypeTextsIf (not s.no_comments && is_some e.ty) (entry_type_texts f) (entry_type_texts g)
  pub after_key : KeptPlaceIf (not s.no_comments && is_some e.name) f.after_key g.after_key
  pub after_eq : KeptPlaceIf (not s.no_comments && is_some e.name) f.after_eq g.after_eq
  pub trailing : g.trailing ≡ []
  pub autoformat_keep : g.autoformat_keep ≡ false

-- an entry with this format has only spaces inside
abbrev pub bare_inside : EntryFormat → Bool
bare_inside f = only_spaces f.before_ty_name && only_spaces f.after_ty_name && only_spaces f.after_ty && only_spaces f.after_key && only_spaces f.after_eq

-- nothing is kept inside the entry e with the format f
pub record NothingInside (s : Settings) (e : Entry) (f : EntryFormat) : Type 0 where
  pub ty : KeptTypeTextsIf (not s.no_comments && is_some e.ty) (entry_type_texts f) (record { before_name = []; after_name = []; after = [] })
  pub after_key : KeptPlaceIf (not s.no_comments && is_some e.name) f.after_key []
  pub after_eq : KeptPlaceIf (not s.no_comments && is_some e.name) f.after_eq []

-- of the formats of the entry e, before layout and after it: if `keep` is true and the spelling is one of its value, the
-- format with this spelling; else with the value as it is printed, or the format that layout leaves if nothing is kept
-- inside the entry
pub data KeptForm (keep : Bool) (s : Settings) (e : Entry) : Option EntryFormat → Option EntryFormat → Option EntryFormat → Type 0 where
  kept : {f g : EntryFormat} {o : Option EntryFormat} → keep ≡ true → IsSpelling e.value f.value_repr → KeepsForm keep s e f (text_before o) f.value_repr g → KeptForm keep s e (Some f) o (Some g)
  bare : {f : EntryFormat} {o : Option EntryFormat} → (keep ≡ true → IsSpelling e.value f.value_repr → ⊥) → NothingInside s e f → KeptForm keep s e (Some f) o o
  other : {f g : EntryFormat} {o : Option EntryFormat} → (keep ≡ true → IsSpelling e.value f.value_repr → ⊥) → KeepsForm keep s e f (text_before o) (print_value e.value) g → bare_inside g ≡ false → KeptForm keep s e (Some f) o (Some g)
  formless : {o : Option EntryFormat} → KeptForm keep s e None o o

-- e' is m, the entry e as it was laid out, with the comments inside e, and with its spellings if `keep` is true
pub record HasSpellings (keep : Bool) (s : Settings) (e m e' : Entry) : Type 0 where
  pub ty : IsRespelledIf keep e.ty m.ty e'.ty
  pub name : IsRespelledIf keep e.name m.name e'.name
  pub format : KeptForm keep s e e.format m.format e'.format
  pub value : e'.value ≡ m.value
  pub span : e'.span ≡ m.span

-- unless the entry is flagged to keep its form: then it is as it was laid out
abbrev pub HasSpellingsUnless : Bool → Bool → Settings → Entry → Entry → Entry → Type 0
HasSpellingsUnless true keep s e m e' = e' ≡ m
HasSpellingsUnless false keep s e m e' = HasSpellings keep s e m e'

-- the same, if spellings or comments inside entries are kept
abbrev pub HasSpellingsIf : Bool → Bool → Settings → Entry → Entry → Entry → Type 0
HasSpellingsIf false keep s e m e' = e' ≡ m
HasSpellingsIf true keep s e m e' = HasSpellingsUnless (is_kept_format (with_keep_if s.entry_autoformate_keep e).format) keep s e m e'

abbrev pub IsRespelledEntry : Keeping → Settings → Entry → Entry → Entry → Type 0
IsRespelledEntry keep s e m e' = HasSpellingsIf (keeps_texts keep) keep.spelling s e m e'

abbrev pub AreRespelledEntries : Keeping → Settings → List Entry → List Entry → List Entry → Type 0
AreRespelledEntries keep s [] [] [] = Unit {0}
AreRespelledEntries keep s (e ∷ es) (m ∷ ms) (e' ∷ es') = IsRespelledEntry keep s e m e' × AreRespelledEntries keep s es ms es'
AreRespelledEntries keep s _ _ _ = ⊥

-- the texts around the type of a node
abbrev pub node_type_texts : NodeFormat → TypeTexts
node_type_texts f = record { before_name = f.before_ty_name; after_name = f.after_ty_name; after = f.after_ty }

-- the texts around a node, with these around its type
abbrev pub with_type_texts : TypeTexts → NodeFormat → NodeFormat
with_type_texts x f = record f { before_ty_name = x.before_name; after_ty_name = x.after_name; after_ty = x.after }

-- the format of a node with the format f, where layout leaves the format m: the texts around its type are put back if
-- `keep` is true
abbrev pub IsTypedFormat : Bool → NodeFormat → Option NodeFormat → Option NodeFormat → Type 0
IsTypedFormat false f m o' = o' ≡ m
IsTypedFormat true f m o' = (x : TypeTexts) × KeptTypeTexts (node_type_texts f) x × (o' ≡ option_map (with_type_texts x) m)

-- a node without its children: only spellings, and the texts around its type, differ from the one that was laid out
pub record IsRespelledHead (keep : Keeping) (s : Settings) (h m h' : Head) : Type 0 where
  pub ty : IsRespelledIf keep.spelling h.ty m.ty h'.ty
  pub name : IsRespelled keep.spelling h.name m.name h'.name
  pub entries : AreRespelledEntries keep s h.entries m.entries h'.entries
  pub format : IsTypedFormat (keeps_texts keep && not s.no_comments && is_some h.ty) (or_empty h.format) m.format h'.format
  pub span : h'.span ≡ m.span

-- the third is the second, which the first was laid out to be, with what is kept of the first inside nodes
abbrev mutual
  pub IsRespelledNode : Keeping → Settings → Node → Node → Node → Type 0
  IsRespelledNode keep s (node h k) (node m j) (node h' k') = IsRespelledHead keep s h m h' × AreRespelledChildren keep s k j k'

  pub AreRespelledChildren : Keeping → Settings → Children → Children → Children → Type 0
  AreRespelledChildren keep s no_children no_children no_children = Unit {0}
  AreRespelledChildren keep s (children d) (children m) (children d') = IsRespelledDocument keep s d m d'
  AreRespelledChildren keep s _ _ _ = ⊥

  pub IsRespelledDocument : Keeping → Settings → Document → Document → Document → Type 0
  IsRespelledDocument keep s (document f at ns) (document g bt ms) (document f' at' ns') = (f' ≡ g) × (at' ≡ bt) × AreRespelledNodes keep s ns ms ns'

  pub AreRespelledNodes : Keeping → Settings → Nodes → Nodes → Nodes → Type 0
  AreRespelledNodes keep s none none none = Unit {0}
  AreRespelledNodes keep s (first n ns) (first m ms) (first n' ns') = IsRespelledNode keep s n m n' × AreRespelledNodes keep s ns ms ns'
  AreRespelledNodes keep s _ _ _ = ⊥

-- e' is e, laid out, with what is kept inside it
abbrev pub IsSpelledEntry : Keeping → Settings → Entry → Entry → Type 0
IsSpelledEntry keep s e e' = (m : Entry) × IsFormattedEntry s e m × IsRespelledEntry keep s e m e'

-- entries likewise
abbrev pub AreSpelledEntries : Keeping → Settings → List Entry → List Entry → Type 0
AreSpelledEntries keep s es es' = (ms : List Entry) × AreFormattedEntries s es ms × AreRespelledEntries keep s es ms es'

-- a node at a level, after what comes before it, and a document with its nodes at the level, laid out with blank lines
abbrev pub IsSpelledNode : Keeping → Bool → ℕ → Settings → ℕ → Before → Node → Node → Type 0
IsSpelledNode keep compact number s level b n n' = (m : Node) × IsSpacedNode compact number s level b n m × IsRespelledNode keep s n m n'

abbrev pub IsSpelledDocument : Keeping → Bool → ℕ → Settings → ℕ → Document → Document → Type 0
IsSpelledDocument keep compact number s level d d' = (m : Document) × IsSpacedDocument compact number s level d m × IsRespelledDocument keep s d m d'
