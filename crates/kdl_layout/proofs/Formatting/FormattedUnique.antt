-- Where comments are left out, what layout makes of a document is what the function gives. Its entries say the same, and none is flagged.
use Rattle.kdl_layout.proofs.Common.{◌≡◌, ℕ, ◌+◌, Bool, true, false, List, [], ◌∷◌, map, refl, ap, ◌∙◌, Option, Some, ◌||◌, Text, Entry, EntryFormat, cleared, autoformatted, NodeFormat, DocumentFormat, Head, Node, node, Children, no_children, children, Document, document, Nodes, none, first, Item, GapItems, Place, before_entry, before_block, PlaceItems, tail, Settings, indentation, with_keep_if, formatted_entry, or_empty, or_empty_document, in_braces, formatted_head, formatted_node, formatted_children, formatted_nodes, formatted_document, EntriesKeepNone, WrittenUnless, KeptTail, KeptBeforeBlock, last_place, KeptEnd, without_bom, entry_leading, is_kept_format, KeptBefore, plain_line, following, IsFormattedEntry, AreFormattedEntries, NodeTexts, line_of, content_of, has_block, SpacesTexts, IsSpacedLine, IsSpacedHead, SpacesContent, IsSpacedContent, IsSpacedBraced, IsSpacedNode, IsSpacedChildren, AreSpacedNodes, IsFormattedDocument, at_start, past_node, spaced_lines, Before}
use Rattle.kdl_layout.specs.Formatted.{content_format}
use Rattle.kdl_layout.proofs.Formatting.PrintsCanonical.{cleared_formatted, not_kept_again}
use Rattle.kdl_layout.proofs.Spacing.Lines.{no_lines_before}

abbrev pub Has : Type 1
Has = List Item → Type 0

abbrev pub Writes : Type 0
Writes = List Item → Text

-- heads with the same parts are the same
pub head_same : {h h' : Head} → h.ty ≡ h'.ty → h.name ≡ h'.name → h.entries ≡ h'.entries → h.format ≡ h'.format → h.span ≡ h'.span → h ≡ h'
head_same {h = h} a b c d e = λ i. record h { ty = a i; name = b i; entries = c i; format = d i; span = e i }

-- where comments are left out nothing is kept of them
unless_none : (has : Has) (write : Writes) (t : Text) (b : Bool) → b ≡ true → WrittenUnless b has write t → t ≡ []
unless_none has write t true e w = w
unless_none has write t false e w = absurd cc

-- a text between nodes, where no blank lines stay
abbrev Lines : Settings → ℕ → Before → Text → Text → Type 0
Lines s level b place t = WrittenUnless s.no_comments (GapItems place) (spaced_lines 0 (indentation s level) b place) t

lines_none : (s : Settings) (level : ℕ) (b : Before) (place t : Text) → s.no_comments ≡ true → Lines s level b place t → t ≡ []
lines_none s level b place t e w = unless_none (GapItems place) (spaced_lines 0 (indentation s level) b place) t s.no_comments e w

pub tail_none : (s : Settings) (p : Place) (place t : Text) → s.no_comments ≡ true → KeptTail s p place t → t ≡ []
tail_none s p place t e w = unless_none (PlaceItems p place) tail t s.no_comments e w

pub block_none : (s : Settings) (has : Bool) (place t : Text) → s.no_comments ≡ true → KeptBeforeBlock s has place t → t ≡ []
block_none s false place t e w = w
block_none s true place t e w = tail_none s before_block place t e w

pub end_none : (b : Bool) (terminator t u : Text) → b ≡ true → KeptEnd b terminator t u → (t ≡ []) × (u ≡ [])
end_none true terminator t u e w = w
end_none false terminator t u e w = absurd cc

or_true : (a b : Bool) → b ≡ true → (a || b) ≡ true
or_true true b e = refl
or_true false b e = e

pub before_none : (s : Settings) (f : Option EntryFormat) (t : Text) → s.no_comments ≡ true → KeptBefore s f t → t ≡ []
before_none s f t e w = unless_none (PlaceItems (before_entry false) (entry_leading f)) tail t (is_kept_format f || s.no_comments) (or_true (is_kept_format f) s.no_comments e) w

line_plain : (s : Settings) (level : ℕ) (has : Bool) (b : Before) (f : NodeFormat) (k : NodeTexts) → s.no_comments ≡ true → SpacesTexts 0 s level has b f k → line_of (indentation s level) k ≡ plain_line (indentation s level)
line_plain s level has b f k e w =
    let end = end_none s.no_comments f.terminator k.space k.comment e w.end in
    rw (
      no_lines_before w.at_node k.before w.lines w.before ∙ lines_none s level b f.leading w.lines e w.leading.0,
      block_none s has f.before_children k.before_block e w.before_block,
      tail_none s (last_place has) f.before_terminator k.last e w.last,
      end.0,
      end.1,
      lines_none s level (past_node f.terminator) f.trailing k.following e w.following.0,
    ) refl

-- around the nodes nothing is kept
pub content_none : (s : Settings) (level : ℕ) (ns : Nodes) (f : DocumentFormat) (b : Before) (x y : Text) → s.no_comments ≡ true → SpacesContent 0 s level ns f b x y → (x ≡ []) × (y ≡ [])
content_none s level ns f b x y e w = (lines_none s level at_start (without_bom f.leading) x e w.leading.0, lines_none s level w.last f.trailing y e w.trailing.0)

content_plain : (s : Settings) (level : ℕ) (ns : Nodes) (f : DocumentFormat) (b : Before) (x y : Text) → s.no_comments ≡ true → SpacesContent 0 s level ns f b x y → content_of false ns x y ≡ content_format ns
content_plain s level ns f b x y e w = let (before, after) = content_none s level ns f b x y e w in rw (before, after) refl

-- then what layout makes is what the function gives
pub entry_left : (s : Settings) (e e' : Entry) → s.no_comments ≡ true → IsFormattedEntry s e e' → e' ≡ formatted_entry s e
entry_left s e e' h f =
    let m = with_keep_if s.entry_autoformate_keep e in
    f.2 ∙ ap (λ (t : Text). following t (autoformatted m)) (before_none s m.format f.0 h f.1)

pub entries_left_out : (s : Settings) (es es' : List Entry) → s.no_comments ≡ true → AreFormattedEntries s es es' → es' ≡ map (formatted_entry s) es
entries_left_out s [] [] h f = refl
entries_left_out s (e ∷ es) (e' ∷ es') h f = let a = entry_left s e e' h f.0 in let b = entries_left_out s es es' h f.1 in cc
entries_left_out s _ _ h f = absurd assumption

line_left : (s : Settings) (level : ℕ) (has : Bool) (b : Before) (f : NodeFormat) (g : Option NodeFormat) → s.no_comments ≡ true → IsSpacedLine 0 s level has b f g → g ≡ Some (plain_line (indentation s level))
line_left s level has b f g h l = l.2 ∙ ap Some (line_plain s level has b f l.0 h l.1)

pub head_left : (s : Settings) (level : ℕ) (has : Bool) (b : Before) (h h' : Head) → s.no_comments ≡ true → IsSpacedHead 0 s level has b h h' → h' ≡ formatted_head s level h
head_left s level has b h h' e f = head_same f.ty f.name (entries_left_out s h.entries h'.entries e f.entries) (line_left s level has b (or_empty h.format) h'.format e f.format) f.span

content_left : (s : Settings) (level : ℕ) (ns : Nodes) (f : DocumentFormat) (b : Before) (g : Option DocumentFormat) → s.no_comments ≡ true → IsSpacedContent false 0 s level ns f b g → g ≡ Some (content_format ns)
content_left s level ns f b g h c = c.3 ∙ ap Some (content_plain s level ns f b c.0 c.1 h c.2)

braces_left : (s : Settings) (level : ℕ) (ns : Nodes) (f : DocumentFormat) (b : Before) (g : Option DocumentFormat) → s.no_comments ≡ true → IsSpacedBraced false 0 s level ns f b g → g ≡ Some (in_braces (indentation s level) (content_format ns))
braces_left s level ns f b g h c = c.3 ∙ ap (λ (x : DocumentFormat). Some (in_braces (indentation s level) x)) (content_plain s (level + 1) ns f b c.0 c.1 h c.2)

mutual
  pub left_out : (s : Settings) (level : ℕ) (b : Before) (n n' : Node) → s.no_comments ≡ true → IsSpacedNode false 0 s level b n n' → n' ≡ formatted_node s level n
  left_out s level b (node h k) (node h' k') e f = let own = head_left s level (has_block k) b h h' e f.0 in let below = children_left_out s level k k' e f.1 in cc

  children_left_out : (s : Settings) (level : ℕ) (k k' : Children) → s.no_comments ≡ true → IsSpacedChildren false 0 s level k k' → k' ≡ formatted_children s level k
  children_left_out s level no_children no_children e f = refl
  children_left_out s level (children (document f span ns)) (children (document f' span' ns')) e (b, c, same, nodes, fits) =
      let braces = braces_left s level ns (or_empty_document f) b f' e c in
      let below = nodes_left_out s (level + 1) b ns ns' e nodes in
      λ i. children (document (braces i) (same i) (below i))
  children_left_out s level _ _ e f = absurd assumption

  nodes_left_out : (s : Settings) (level : ℕ) (b : Before) (ns ns' : Nodes) → s.no_comments ≡ true → AreSpacedNodes false 0 s level b ns ns' → ns' ≡ formatted_nodes s level ns
  nodes_left_out s level b none none e f = refl
  nodes_left_out s level b (first n ns) (first n' ns') e (b', f, p, g) = let x = left_out s level b n n' e f in let y = nodes_left_out s level b' ns ns' e g in cc
  nodes_left_out s level b _ _ e f = absurd assumption

pub document_left_out : (s : Settings) (level : ℕ) (d d' : Document) → s.no_comments ≡ true → IsFormattedDocument s level d d' → d' ≡ formatted_document s level d
document_left_out s level (document f span ns) (document f' span' ns') e (b, c, same, nodes) =
    let x = content_left s level ns (or_empty_document f) b f' e c in
    let y = nodes_left_out s level b ns ns' e nodes in
    λ i. document (x i) (same i) (y i)

-- of an entry all stays but formats and spellings
pub cleared_after : (t : Text) (e : Entry) → cleared (following t e) ≡ cleared e
cleared_after [] e = refl
cleared_after (c ∷ t) e = refl

pub entry_stays : (s : Settings) (e e' : Entry) → IsFormattedEntry s e e' → cleared e' ≡ cleared e
entry_stays s e e' f = ap cleared f.2 ∙ cleared_after f.0 (autoformatted (with_keep_if s.entry_autoformate_keep e)) ∙ cleared_formatted s.entry_autoformate_keep e

-- no entry is flagged any more
pub after_not_kept : (t : Text) (e : Entry) → is_kept_format e.format ≡ false → is_kept_format (following t e).format ≡ false
after_not_kept [] e h = h
after_not_kept (c ∷ t) e h = refl

pub entry_keeps_none : (s : Settings) (e e' : Entry) → IsFormattedEntry s e e' → is_kept_format e'.format ≡ false
entry_keeps_none s e e' f =
    let m = with_keep_if s.entry_autoformate_keep e in
    ap (λ (x : Entry). is_kept_format x.format) f.2 ∙ after_not_kept f.0 (autoformatted m) (not_kept_again m.format)

pub entries_keep_none : (s : Settings) (es es' : List Entry) → AreFormattedEntries s es es' → EntriesKeepNone es'
entries_keep_none s [] [] f = tt
entries_keep_none s (e ∷ es) (e' ∷ es') f = (entry_keeps_none s e e' f.0, entries_keep_none s es es' f.1)
entries_keep_none s _ _ f = absurd assumption
