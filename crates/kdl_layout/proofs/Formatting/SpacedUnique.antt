-- What layout makes of a document is one thing, with blank lines or not.
use Rattle.kdl_layout.proofs.Common.{◌≡◌, ℕ, ◌+◌, Bool, true, false, List, [], ◌∷◌, ◌++◌, refl, sym, ap, ◌∙◌, subst, Option, Some, ◌||◌, Text, Entry, EntryFormat, autoformatted, NodeFormat, DocumentFormat, Head, Node, node, Children, no_children, children, Document, document, Nodes, none, first, Item, GapItems, Place, before_entry, before_block, PlaceItems, tail, Settings, indentation, with_keep_if, or_empty, or_empty_document, WrittenUnless, KeptTail, KeptBeforeBlock, end_comment, end_space, last_place, KeptEnd, without_bom, entry_leading, is_kept_format, KeptBefore, following, IsFormattedEntry, AreFormattedEntries, NodeTexts, line_of, content_of, block_of, has_block, Passes, PassesText, PassesNode, PassesNodes, SpacedLines, SpacesTexts, IsSpacedLine, IsSpacedHead, SpacesContent, IsSpacedContent, IsSpacedBraced, IsSpacedNode, IsSpacedChildren, AreSpacedNodes, IsSpacedDocument, at_start, empty_lines, past_items, past_node, spaced_lines, Before}
use Rattle.kdl_layout.proofs.Listing.ItemsUnique.{end_items_det, gap_items_det, items_in_det, place_items_det}
use Rattle.kdl_layout.proofs.Formatting.FormattedUnique.{Has, Writes, head_same}
use Rattle.kdl_layout.proofs.Spacing.Lines.{no_lines}
use Rattle.kdl_layout.proofs.Spacing.Reads.{lines_after}

-- what is kept of a place is one text
unless_det : (has : Has) (write : Writes) (t u : Text) (b : Bool) → ((is js : List Item) → has is → has js → is ≡ js) → WrittenUnless b has write t → WrittenUnless b has write u → t ≡ u
unless_det has write t u true det a b = a ∙ sym b
unless_det has write t u false det (is, i, e) (js, j, f) = e ∙ ap write (items_in_det det i j) ∙ sym f

-- before the thing after it comes one thing, where blank lines are kept
abbrev pub SameBefore : ℕ → Before → Before → Type 0
SameBefore number b c = (number ≡ 0 → ⊥) → b ≡ c

passes_det : (left_out : Bool) (b : Before) (place : Text) (x y : Before) → Passes left_out b place x → Passes left_out b place y → x ≡ y
passes_det left_out b place _ _ (Passes.items d) (Passes.items e) = ap (past_items left_out b place) (gap_items_det d e)
passes_det left_out b place _ _ (Passes.items {is = is} d) (Passes.no_gap f) = absurd (f is d)
passes_det left_out b place _ _ (Passes.no_gap f) (Passes.items {is = is} d) = absurd (f is d)
passes_det left_out b place _ _ (Passes.no_gap f) (Passes.no_gap h) = refl

passes_text_det : (number : ℕ) (s : Settings) (b c : Before) (place : Text) (x y : Before) → SameBefore number b c → PassesText number s b place x → PassesText number s c place y → SameBefore number x y
passes_text_det ℕ.zero s b c place x y same p q = λ h. absurd (h refl)
passes_text_det (ℕ.suc number) s b c place x y same p q =
    λ h. passes_det s.no_comments c place x y (subst (λ (z : Before). Passes s.no_comments z place x) (same h) p) q

lines_det : (number : ℕ) (s : Settings) (level : ℕ) (b c : Before) (place t u : Text) (x y : Before) → SameBefore number b c → SpacedLines number s level b place t x → SpacedLines number s level c place u y
    → (t ≡ u) × SameBefore number x y
lines_det number s level b c place t u x y same v w =
    let v' = lines_after number s level b c x place t same v in
    (unless_det (GapItems place) (spaced_lines number (indentation s level) c place) t u s.no_comments (λ is js d e. gap_items_det d e) v'.0 w.0, passes_text_det number s b c place x y same v.1 w.1)

empty_lines_det : (number : ℕ) (b c : Before) → SameBefore number b c → empty_lines number b ≡ empty_lines number c
empty_lines_det ℕ.zero b c same = no_lines b ∙ sym (no_lines c)
empty_lines_det (ℕ.suc number) b c same = ap (empty_lines (ℕ.suc number)) (same (λ (z : ℕ.suc number ≡ 0). absurd cc))

pub tail_det : (s : Settings) (p : Place) (place t u : Text) → KeptTail s p place t → KeptTail s p place u → t ≡ u
tail_det s p place t u a b = unless_det (PlaceItems p place) tail t u s.no_comments (λ is js x y. place_items_det x y) a b

pub before_det : (s : Settings) (f : Option EntryFormat) (t u : Text) → KeptBefore s f t → KeptBefore s f u → t ≡ u
before_det s f t u a b = unless_det (PlaceItems (before_entry false) (entry_leading f)) tail t u (is_kept_format f || s.no_comments) (λ is js x y. place_items_det x y) a b

pub block_det : (s : Settings) (has : Bool) (place t u : Text) → KeptBeforeBlock s has place t → KeptBeforeBlock s has place u → t ≡ u
block_det s false place t u a b = a ∙ sym b
block_det s true place t u a b = tail_det s before_block place t u a b

pub end_det : (b : Bool) (terminator t u t' u' : Text) → KeptEnd b terminator t u → KeptEnd b terminator t' u' → (t ≡ t') × (u ≡ u')
end_det true terminator t u t' u' a b = (a.0 ∙ sym b.0, a.1 ∙ sym b.1)
end_det false terminator t u t' u' (is, i, e, f) (js, j, g, h) = let d = end_items_det i j in (e ∙ ap end_space d ∙ sym g, f ∙ ap end_comment d ∙ sym h)

texts_det : (number : ℕ) (s : Settings) (level : ℕ) (has : Bool) (b c : Before) (f : NodeFormat) (k k' : NodeTexts) → SameBefore number b c → SpacesTexts number s level has b f k → SpacesTexts number s level has c f k' → k ≡ k'
texts_det number s level has b c f k k' same v w =
    let end = end_det s.no_comments f.terminator k.space k.comment k'.space k'.comment v.end w.end in
    let lines = lines_det number s level b c f.leading v.lines w.lines v.at_node w.at_node same v.leading w.leading in
    let before = v.before ∙ (λ i. lines.0 i ++ empty_lines_det number v.at_node w.at_node lines.1 i) ∙ sym w.before in
    let block = block_det s has f.before_children k.before_block k'.before_block v.before_block w.before_block in
    let last = tail_det s (last_place has) f.before_terminator k.last k'.last v.last w.last in
    let more = (lines_det number s level (past_node f.terminator) (past_node f.terminator) f.trailing k.following k'.following v.after_it w.after_it (λ _. refl) v.following w.following).0 in
    λ i. record { before = before i; before_block = block i; last = last i; space = end.0 i; comment = end.1 i; following = more i }

-- so what layout makes is one thing
pub entry_det : (s : Settings) (e x y : Entry) → IsFormattedEntry s e x → IsFormattedEntry s e y → x ≡ y
entry_det s e x y a b =
    let m = with_keep_if s.entry_autoformate_keep e in
    a.2 ∙ ap (λ (t : Text). following t (autoformatted m)) (before_det s m.format a.0 b.0 a.1 b.1) ∙ sym b.2

pub formatted_entries_det : (s : Settings) (es xs ys : List Entry) → AreFormattedEntries s es xs → AreFormattedEntries s es ys → xs ≡ ys
formatted_entries_det s [] [] [] a b = refl
formatted_entries_det s (e ∷ es) (x ∷ xs) (y ∷ ys) a b = let c = entry_det s e x y a.0 b.0 in let d = formatted_entries_det s es xs ys a.1 b.1 in cc
formatted_entries_det s _ _ _ a b = absurd assumption

line_det : (number : ℕ) (s : Settings) (level : ℕ) (has : Bool) (b c : Before) (f : NodeFormat) (g g' : Option NodeFormat) → SameBefore number b c → IsSpacedLine number s level has b f g → IsSpacedLine number s level has c f g' → g ≡ g'
line_det number s level has b c f g g' same v w = v.2 ∙ ap (λ (k : NodeTexts). Some (line_of (indentation s level) k)) (texts_det number s level has b c f v.0 w.0 same v.1 w.1) ∙ sym w.2

node_passed_det : (number : ℕ) (s : Settings) (n : Node) (x y : Before) → PassesNode number s n x → PassesNode number s n y → SameBefore number x y
node_passed_det number s (node h k) x y p q =
    let f = or_empty h.format in
    passes_text_det number s (past_node f.terminator) (past_node f.terminator) f.trailing x y (λ _. refl) p q

nodes_passed_det : (number : ℕ) (s : Settings) (b c : Before) (ns : Nodes) (x y : Before) → SameBefore number b c → PassesNodes number s b ns x → PassesNodes number s c ns y → SameBefore number x y
nodes_passed_det number s b c none x y same p q = λ h. p ∙ same h ∙ sym q
nodes_passed_det number s b c (first n none) x y same p q = node_passed_det number s n x y p q
nodes_passed_det number s b c (first n (first m ns)) x y same p q = nodes_passed_det number s b c (first m ns) x y same p q

content_texts_det : (number : ℕ) (s : Settings) (level : ℕ) (ns : Nodes) (f : DocumentFormat) (b c : Before) (t u t' u' : Text) → SpacesContent number s level ns f b t u → SpacesContent number s level ns f c t' u'
    → (t ≡ t') × (u ≡ u') × SameBefore number b c
content_texts_det number s level ns f b c t u t' u' v w =
    let before = lines_det number s level at_start at_start (without_bom f.leading) t t' b c (λ _. refl) v.leading w.leading in
    let last = nodes_passed_det number s b c ns v.last w.last before.1 v.passes w.passes in
    (before.0, (lines_det number s level v.last w.last f.trailing u u' v.after_it w.after_it last v.trailing w.trailing).0, before.1)

content_det : (compact : Bool) (number : ℕ) (s : Settings) (level : ℕ) (ns : Nodes) (f : DocumentFormat) (b c : Before) (g g' : Option DocumentFormat) → IsSpacedContent compact number s level ns f b g → IsSpacedContent compact number s level ns f c g'
    → (g ≡ g') × SameBefore number b c
content_det compact number s level ns f b c g g' v w =
    let (before, more, same) = content_texts_det number s level ns f b c v.0 v.1 w.0 w.1 v.2 w.2 in
    (v.3 ∙ (λ i. Some (content_of compact ns (before i) (more i))) ∙ sym w.3, same)

braces_det : (compact : Bool) (number : ℕ) (s : Settings) (level : ℕ) (ns : Nodes) (f : DocumentFormat) (b c : Before) (g g' : Option DocumentFormat) → IsSpacedBraced compact number s level ns f b g → IsSpacedBraced compact number s level ns f c g'
    → (g ≡ g') × SameBefore number b c
braces_det compact number s level ns f b c g g' v w =
    let (before, more, same) = content_texts_det number s (level + 1) ns f b c v.0 v.1 w.0 w.1 v.2 w.2 in
    (v.3 ∙ (λ i. Some (block_of compact (indentation s level) ns (before i) (more i))) ∙ sym w.3, same)

head_det : (number : ℕ) (s : Settings) (level : ℕ) (has : Bool) (b c : Before) (h x y : Head) → SameBefore number b c → IsSpacedHead number s level has b h x → IsSpacedHead number s level has c h y → x ≡ y
head_det number s level has b c h x y same v w =
    head_same (v.ty ∙ sym w.ty) (v.name ∙ sym w.name) (formatted_entries_det s h.entries x.entries y.entries v.entries w.entries) (line_det number s level has b c (or_empty h.format) x.format y.format same v.format w.format) (v.span ∙ sym w.span)

mutual
  pub spaced_node_det : (compact : Bool) (number : ℕ) (s : Settings) (level : ℕ) (b c : Before) (n x y : Node) → SameBefore number b c → IsSpacedNode compact number s level b n x → IsSpacedNode compact number s level c n y → x ≡ y
  spaced_node_det compact number s level b c (node h k) (node h1 k1) (node h2 k2) same v w =
      let own = head_det number s level (has_block k) b c h h1 h2 same v.0 w.0 in
      let below = spaced_children_det compact number s level k k1 k2 v.1 w.1 in
      cc

  spaced_children_det : (compact : Bool) (number : ℕ) (s : Settings) (level : ℕ) (k x y : Children) → IsSpacedChildren compact number s level k x → IsSpacedChildren compact number s level k y → x ≡ y
  spaced_children_det compact number s level no_children no_children no_children a b = refl
  spaced_children_det compact number s level (children (document f span ns)) (children (document f1 span1 ns1)) (children (document f2 span2 ns2)) a b =
      let (braces, same) = braces_det compact number s level ns (or_empty_document f) a.0 b.0 f1 f2 a.1 b.1 in
      let at = a.2 ∙ sym b.2 in
      let below = spaced_nodes_det compact number s (level + 1) a.0 b.0 ns ns1 ns2 same a.3 b.3 in
      λ i. children (document (braces i) (at i) (below i))
  spaced_children_det compact number s level _ _ _ a b = absurd assumption

  spaced_nodes_det : (compact : Bool) (number : ℕ) (s : Settings) (level : ℕ) (b c : Before) (ns x y : Nodes) → SameBefore number b c → AreSpacedNodes compact number s level b ns x → AreSpacedNodes compact number s level c ns y → x ≡ y
  spaced_nodes_det compact number s level b c none none none same v w = refl
  spaced_nodes_det compact number s level b c (first n ns) (first n1 ns1) (first n2 ns2) same v w =
      let here = spaced_node_det compact number s level b c n n1 n2 same v.1 w.1 in
      let others = spaced_nodes_det compact number s level v.0 w.0 ns ns1 ns2 (node_passed_det number s n v.0 w.0 v.2 w.2) v.3 w.3 in
      cc
  spaced_nodes_det compact number s level b c _ _ _ same v w = absurd assumption

pub spaced_det : (compact : Bool) (number : ℕ) (s : Settings) (level : ℕ) (d x y : Document) → IsSpacedDocument compact number s level d x → IsSpacedDocument compact number s level d y → x ≡ y
spaced_det compact number s level (document f span ns) (document f1 span1 ns1) (document f2 span2 ns2) a b =
    let (content, same) = content_det compact number s level ns (or_empty_document f) a.0 b.0 f1 f2 a.1 b.1 in
    let at = a.2 ∙ sym b.2 in
    let nodes = spaced_nodes_det compact number s level a.0 b.0 ns ns1 ns2 same a.3 b.3 in
    λ i. document (content i) (at i) (nodes i)
