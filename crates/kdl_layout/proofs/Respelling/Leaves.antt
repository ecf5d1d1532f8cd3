-- What a layout that keeps spellings leaves as it was, and what it leaves of flags.
use Rattle.kdl_layout.proofs.Common.{◌≡◌, Bool, true, false, List, [], ◌∷◌, refl, ap, ◌∙◌, Option, Some, None, option_map, Identifier, EntryFormat, Entry, unspelled, cleared, Node, node, Children, no_children, children, Document, document, Nodes, none, first, Keeping, Settings, with_keep_if, EntriesKeepNone, NodeKeepsNone, ChildrenKeepNone, DocumentKeepsNone, NodesKeepNone, is_kept_format, keeps_texts, IsRespelled, IsRespelledIf, KeptForm, HasSpellings, HasSpellingsIf, HasSpellingsUnless, IsRespelledEntry, AreRespelledEntries, IsRespelledNode, AreRespelledChildren, IsRespelledDocument, AreRespelledNodes, IsSpelledEntry}
use Rattle.kdl_layout.proofs.Formatting.FormattedUnique as plain

-- without its spelling an identifier is what it was
pub unspelled_same : (keep : Bool) (i m i' : Identifier) → IsRespelled keep i m i' → unspelled i' ≡ unspelled m
unspelled_same false i m i' h = ap unspelled h
unspelled_same true i m i' (r, k, h) = ap unspelled h

pub unspelled_same_if : (keep : Bool) (o m o' : Option Identifier) → IsRespelledIf keep o m o' → option_map unspelled o' ≡ option_map unspelled m
unspelled_same_if keep None None None h = refl
unspelled_same_if keep (Some i) (Some m) (Some i') h = ap Some (unspelled_same keep i m i' h)
unspelled_same_if keep _ _ _ h = absurd assumption

cleared_spellings : (keep : Bool) (s : Settings) (e m e' : Entry) → HasSpellings keep s e m e' → cleared e' ≡ cleared m
cleared_spellings keep s e m e' h =
    let ty = unspelled_same_if keep e.ty m.ty e'.ty h.ty in
    let name = unspelled_same_if keep e.name m.name e'.name h.name in
    let value = h.value in
    let span = h.span in
    λ i. record { ty = ty i; value = value i; name = name i; format = None; span = span i }

cleared_if : (b keep : Bool) (s : Settings) (e m e' : Entry) → HasSpellingsIf b keep s e m e' → cleared e' ≡ cleared m
cleared_if false keep s e m e' h = ap cleared h
cleared_if true keep s e m e' h = go (is_kept_format (with_keep_if s.entry_autoformate_keep e).format) h
  where
    go : (b : Bool) → HasSpellingsUnless b keep s e m e' → cleared e' ≡ cleared m
    go true h = ap cleared h
    go false h = cleared_spellings keep s e m e' h

pub cleared_same : (keep : Keeping) (s : Settings) (e m e' : Entry) → IsRespelledEntry keep s e m e' → cleared e' ≡ cleared m
cleared_same keep s e m e' h = cleared_if (keeps_texts keep) keep.spelling s e m e' h

pub entry_stays : (keep : Keeping) (s : Settings) (e e' : Entry) → IsSpelledEntry keep s e e' → cleared e' ≡ cleared e
entry_stays keep s e e' (m, f, r) = cleared_same keep s e m e' r ∙ plain.entry_stays s e m f

-- no entry is flagged any more
form_flag : (keep : Bool) (s : Settings) (e : Entry) (o p q : Option EntryFormat) → is_kept_format p ≡ false → KeptForm keep s e o p q → is_kept_format q ≡ false
form_flag keep s e _ p _ h (KeptForm.kept x d k) = k.autoformat_keep
form_flag keep s e _ p _ h (KeptForm.bare n k) = h
form_flag keep s e _ p _ h (KeptForm.other n k w) = k.autoformat_keep
form_flag keep s e _ p _ h KeptForm.formless = h

flag_if : (b keep : Bool) (s : Settings) (e m e' : Entry) → is_kept_format m.format ≡ false → HasSpellingsIf b keep s e m e' → is_kept_format e'.format ≡ false
flag_if false keep s e m e' h r = ap (λ (x : Entry). is_kept_format x.format) r ∙ h
flag_if true keep s e m e' h r = go (is_kept_format (with_keep_if s.entry_autoformate_keep e).format) r
  where
    go : (b : Bool) → HasSpellingsUnless b keep s e m e' → is_kept_format e'.format ≡ false
    go true r = ap (λ (x : Entry). is_kept_format x.format) r ∙ h
    go false r = form_flag keep s e e.format m.format e'.format h r.format

pub entry_flag : (keep : Keeping) (s : Settings) (e m e' : Entry) → is_kept_format m.format ≡ false → IsRespelledEntry keep s e m e' → is_kept_format e'.format ≡ false
entry_flag keep s e m e' h r = flag_if (keeps_texts keep) keep.spelling s e m e' h r

module _ (keep : Keeping) (s : Settings) where
  entries_flag : (es ms es' : List Entry) → EntriesKeepNone ms → AreRespelledEntries keep s es ms es' → EntriesKeepNone es'
  entries_flag [] [] [] h r = tt
  entries_flag (e ∷ es) (m ∷ ms) (e' ∷ es') h r = (entry_flag keep s e m e' h.0 r.0, entries_flag es ms es' h.1 r.1)
  entries_flag _ _ _ h r = absurd assumption

  mutual
    pub keeps_none : (n m n' : Node) → NodeKeepsNone m → IsRespelledNode keep s n m n' → NodeKeepsNone n'
    keeps_none (node h k) (node m j) (node h' k') x r = (entries_flag h.entries m.entries h'.entries x.0 r.0.entries, children_keep_none k j k' x.1 r.1)

    children_keep_none : (k j k' : Children) → ChildrenKeepNone j → AreRespelledChildren keep s k j k' → ChildrenKeepNone k'
    children_keep_none no_children no_children no_children x r = tt
    children_keep_none (children d) (children m) (children d') x r = document_keeps_none d m d' x r
    children_keep_none _ _ _ x r = absurd assumption

    pub document_keeps_none : (d m d' : Document) → DocumentKeepsNone m → IsRespelledDocument keep s d m d' → DocumentKeepsNone d'
    document_keeps_none (document f at ns) (document g bt ms) (document f' at' ns') x r = nodes_keep_none ns ms ns' x r.2

    nodes_keep_none : (ns ms ns' : Nodes) → NodesKeepNone ms → AreRespelledNodes keep s ns ms ns' → NodesKeepNone ns'
    nodes_keep_none none none none x r = tt
    nodes_keep_none (first n ns) (first m ms) (first n' ns') x r = (keeps_none n m n' x.0 r.0, nodes_keep_none ns ms ns' x.1 r.1)
    nodes_keep_none _ _ _ x r = absurd assumption
