-- A node or document of which a part is laid out reads back where it did before.
use Rattle.kdl_layout.proofs.Common.{◌≡◌, Keeping, ℕ, ◌+◌, Bool, true, false, List, [], ◌∷◌, ◌++◌, refl, sym, subst, Option, Some, None, append_assoc, All, list_all, Text, is_space, ValueEnd, SourceSpan, print_identifier, print_type, Identifier, named, IsNode, AfterName, no_gap, BeforeChildren, Rests, Anything, TextEnd, EntryReads, HeadReads, AddsNothing, EndReads, NodeReads, reads, ChildrenRead, a_block, NodesRead, no_node, last_node, next_node, ContentReads, two_texts, with_nodes, BlockReads, DocumentReads, NodeFormat, DocumentFormat, Head, node, Children, no_children, children, document, Nodes, none, first, gap_nodes, newline_gap, GapItems, before_block, at_start, past_node, Settings, indentation, or_empty_document, newline_at_end, KeptBeforeBlock, last_place, without_bom, TypeTexts, with_type_texts, AreRespelledNodes, SpacedLines, SpacesTexts, IsSpacedContent, IsSpacedBraced, SpacesContent, AreSpacedNodes, NodeTexts, line_of, has_block, Before}
use Rattle.kdl_entry.specs.Data as data'
use Rattle.kdl_grammar.specs.Data as nodes'
use Rattle.kdl_grammar.specs.Print.{trailing_text}
use Rattle.kdl_grammar.specs.ReadsBack.{name_text, IsGapBefore, BeforeTerminator, last_rests, no_block, block}
use Rattle.kdl_grammar.proofs.ReadingBack.Composing.{block_reads, ends_before}
use Rattle.kdl_layout.proofs.Texts.{name_of}
use Rattle.kdl_layout.proofs.Keeping.KeptPlaces.{indentation_gap, Tail, tail_of, tail_spaced, LineEnd, line_end_of, line_terminator, last_text}
use Rattle.kdl_layout.proofs.Keeping.Blocks.{Braces, together, apart, block_texts, no_newline}
use Rattle.kdl_layout.proofs.Respelling.Spellings.{string_before}
use Rattle.kdl_layout.proofs.Respelling.Kept.{TypeSpaces}
use Rattle.kdl_layout.proofs.Respelling.Written.{IsTypedLine, NameReads, NameReadsIf}
use Rattle.kdl_layout.proofs.Spacing.Lines.{before_gap, lines_gap}
use Rattle.kdl_layout.proofs.Respelling.Spelled.{SpelledNodes, spelled_nodes}
use Rattle.kdl_layout.proofs.OneLine.Nothing.{nothing_kept}
use Rattle.kdl_layout.proofs.Formatting.EntriesRead.{type_reads, empty_gap}

-- nodes that end by themselves, before any rests
pub all_end : (P : Rests) {ns : Nodes} → NodesRead Anything ns → NodesRead P ns
all_end P no_node = no_node
all_end P (last_node x) = last_node (ends_before P x)
all_end P (next_node x xs) = next_node x (all_end P xs)

-- a name and its type
name_joined : (t a n r : Text) → (t ++ a ++ n) ++ r ≡ t ++ (a ++ (n ++ r))
name_joined t a n r = simp append_assoc

named_reads : (y : Option Identifier) (i : Identifier) (x : TypeTexts) → NameReadsIf y → NameReads i → TypeSpaces x → (y ≡ None → x.after ≡ []) → {r t : Text} {es : List data'.Entry} {k : nodes'.Children} → ValueEnd true r → AfterName true r t es k
    → IsNode true ((print_type y x.before_name x.after_name ++ x.after ++ print_identifier i) ++ r) t (nodes'.node (name_of y) i.value es k)
named_reads y i x a n s u {r = r} e d = rw (name_joined (print_type y x.before_name x.after_name) x.after (print_identifier i) r) (named (type_reads y x _ a s u) (string_before (print_identifier i) i.value r n e) d)

end_joined : (c b r : Text) → ((c ++ (10 ∷ [])) ++ b) ++ r ≡ c ++ (10 ∷ (b ++ r))
end_joined c b r = simp append_assoc

place_joined : (l s c b r : Text) → (l ++ s) ++ (((c ++ (10 ∷ [])) ++ b) ++ r) ≡ l ++ (s ++ (c ++ (10 ∷ (b ++ r))))
place_joined l s c b r = simp append_assoc

-- nodes that are laid out, with their spellings or not
abbrev pub AreLined : Bool → ℕ → Settings → ℕ → Before → Nodes → Nodes → Type 0
AreLined compact number s level b ns xs = (keep : Keeping) × SpelledNodes compact number s keep level b ns xs

pub lined : (compact : Bool) (number : ℕ) (s : Settings) (keep : Keeping) (level : ℕ) (b : Before) (ns ms xs : Nodes) → AreSpacedNodes compact number s level b ns ms → AreRespelledNodes keep s ns ms xs → AreLined compact number s level b ns xs
lined compact number s keep level b ns ms xs f r = (keep, spelled_nodes compact number s keep level b ns ms xs f r)

-- the place before the terminator
before_end : (k : Children) {l space c : Text} → Tail (last_place (has_block k)) l → LineEnd space c → (r : Text) → BeforeTerminator k (l ++ (space ++ (c ++ (10 ∷ r)))) (c ++ (10 ∷ r))
before_end no_children t e r = last_text false t e r
before_end (children d) t e r = last_text true t e r

pub content_with : {P : Rests} {l t : Text} (ns : Nodes) → AddsNothing l → NodesRead (last_rests t P) ns → IsGapBefore P t → ContentReads P l t ns
content_with none a x g = two_texts a g
content_with (first n ns) a x g = with_nodes a x g

trailing_joined : (b e i r : Text) → ((b ++ e) ++ i) ++ r ≡ b ++ (e ++ (i ++ r))
trailing_joined b e i r = simp append_assoc

module _ (number : ℕ) (s : Settings) (ok : list_all is_space s.indent ≡ true) where
  -- what is kept between nodes adds nothing
  pub lines_add : (level : ℕ) (b b' : Before) (place t : Text) → SpacedLines number s level b place t b' → AddsNothing t
  lines_add level b b' place t k r v xs e d = gap_nodes (lines_gap s ok number level b b' place t k no_gap) d

  -- the line of a node
  module _ (level : ℕ) (has : Bool) (b : Before) (f : NodeFormat) (t : NodeTexts) (x : TypeTexts) (kept : SpacesTexts number s level has b f t) where
    pub line_head : (h : Head) → NameReadsIf h.ty → NameReads h.name → TypeSpaces x → (h.ty ≡ None → x.after ≡ []) → All EntryReads h.entries → HeadReads h (with_type_texts x (line_of (indentation s level) t))
    line_head h a n y u es = record {
      leading = λ r.
          let rest = name_text h (with_type_texts x (line_of (indentation s level) t)) ++ r in
          rw (append_assoc t.before (indentation s level) rest) (before_gap s ok number level has b f t kept (indentation_gap s ok level no_gap));
      name = λ v d. named_reads h.ty h.name x a n y u v d;
      entries = es;
    }

    pub line_end : (k : Children) → has ≡ has_block k → (Q : Rests) → EndReads Q k (with_type_texts x (line_of (indentation s level) t))
    line_end k same Q =
        let tail : Tail (last_place (has_block k)) t.last = subst (λ (x : Bool). Tail (last_place x) t.last) same (tail_of s.no_comments (last_place has) f.before_terminator t.last kept.last) in
        let end = line_end_of s.no_comments f.terminator t.space t.comment kept.end in
        record {
          place = λ r p x. rw (place_joined t.last t.space t.comment t.following r, end_joined t.comment t.following r) (before_end k tail end (t.following ++ r));
          terminator = λ r v xs p z d. (
            t.following ++ r,
            rw (end_joined t.comment t.following r) (line_terminator end (t.following ++ r)),
            lines_add level (past_node f.terminator) kept.after_it f.trailing t.following kept.following r v xs z d,
          );
        }

    pub line_block : has ≡ true → (u : Text) → BeforeChildren ((t.before_block ++ (32 ∷ [])) ++ (123 ∷ u)) (123 ∷ u)
    line_block same u =
        let k : KeptBeforeBlock s true f.before_children t.before_block = subst (λ (x : Bool). KeptBeforeBlock s x f.before_children t.before_block) same kept.before_block in
        rw (append_assoc t.before_block (32 ∷ []) (123 ∷ u)) (tail_spaced before_block (tail_of s.no_comments before_block f.before_children t.before_block k) (123 ∷ u))

  line_children : (level : ℕ) (k : Children) (b : Before) (f : NodeFormat) (t : NodeTexts) (w : TypeTexts) (kept : SpacesTexts number s level (has_block k) b f t) {h : Head} {P : Rests} → NodeReads P (node h k)
      → ChildrenRead (with_type_texts w (line_of (indentation s level) t)) k
  line_children level no_children b f t w kept x = no_block
  line_children level (children d) b f t w kept x = a_block (line_block level true b f t w kept refl) (block_reads x)

  -- a node whose own texts are laid out
  pub own_reads : (level : ℕ) (b : Before) (h h' : Head) (f : NodeFormat) (k : Children) → NameReadsIf h'.ty → NameReads h'.name
      → All EntryReads h'.entries → IsTypedLine number s level (has_block k) b f h'.ty h'.format → {P Q : Rests} → NodeReads P (node h k) → NodeReads Q (node h' k)
  own_reads level b h h' f k a n es line {Q = Q} x =
      let t = line.texts in
      let w = line.types in
      reads line.is (line_head level (has_block k) b f t w line.kept h' a n line.spaces line.untyped es) (line_children level k b f t w line.kept x) (line_end level (has_block k) b f t w line.kept k refl Q)

  -- a block whose nodes end by themselves
  block_with : (level : ℕ) {compact : Bool} {olds : Nodes} {x y : Text} (f : DocumentFormat) (b : Before) {g : DocumentFormat} (at : SourceSpan) (ms : Nodes) → Braces (indentation s level) compact olds x y g → SpacesContent number s (level + 1) olds f b x y
      → NodesRead Anything ms → BlockReads (document (Some g) at ms)
  block_with level f b at ms together c d = block (content_with ms (λ r v xs z d. d) (all_end _ d) (λ r p. no_gap))
  block_with level {x = x} {y = y} f b at ms (apart {compact = compact} {ns = olds}) c d =
      block (content_with ms
      (λ r v xs z d. gap_nodes (newline_gap (lines_gap s ok number (level + 1) at_start b (without_bom f.leading) x c.leading no_gap)) d)
      (all_end _ d)
      (λ r p. rw (trailing_joined y (newline_at_end compact olds) (indentation s level) r) (lines_gap s ok number (level + 1) c.last c.after_it f.trailing y c.trailing (empty_gap compact olds (indentation_gap s ok level no_gap)))))

  pub braced_reads : (compact : Bool) (level : ℕ) (olds : Nodes) (f : DocumentFormat) (b : Before) (g : Option DocumentFormat) (at : SourceSpan) (ms : Nodes) → IsSpacedBraced compact number s level olds f b g → NodesRead Anything ms → BlockReads (document g at ms)
  braced_reads compact level olds f b g at ms (x, y, c, e) d =
      subst (λ (z : Option DocumentFormat). BlockReads (document z at ms)) (sym e) (block_with level f b at ms (block_texts compact (indentation s level) olds x y) c d)

  -- a document whose own texts are laid out
  content_last : {ns : Nodes} (q y : Text) → (q ≡ [] → y ≡ []) → NodesRead (last_rests q TextEnd) ns → NodesRead (last_rests (y ++ []) TextEnd) ns
  content_last {ns} [] y h x = subst (λ (z : Text). NodesRead (last_rests (z ++ []) TextEnd) ns) (sym (h refl)) x
  content_last (c ∷ q) y h x = all_end _ x

  content_laid : (compact : Bool) (level : ℕ) (b last after : Before) (q' q x y : Text) → SpacedLines number s level at_start q' x b → SpacedLines number s level last q y after → {l : Text} (ns : Nodes) → ContentReads TextEnd l q ns
      → ContentReads TextEnd x (y ++ newline_at_end compact ns) ns
  content_laid compact level b last after q' q x y k m none d =
      two_texts (lines_add level at_start b q' x k) (λ r p. rw (append_assoc y (newline_at_end compact none) r) (lines_gap s ok number level last after q y m (empty_gap compact none no_gap)))
  content_laid compact level b last after q' q x y k m (first n ns) (with_nodes a z g) =
      let laid : ContentReads TextEnd x (y ++ []) (first n ns) =
      with_nodes (lines_add level at_start b q' x k)
      (content_last q y (λ e. nothing_kept number s level last after [] y GapItems.none (subst (λ (u : Text). SpacedLines number s level last u y after) e m)) z)
      (λ r p. rw (append_assoc y [] r) (lines_gap s ok number level last after q y m no_gap)) in
      rw (no_newline compact n ns) laid

  trailing_is : (o : Option DocumentFormat) → (or_empty_document o).trailing ≡ trailing_text o
  trailing_is None = refl
  trailing_is (Some f) = refl

  pub document_reads : (compact : Bool) (level : ℕ) (b : Before) (o g : Option DocumentFormat) (at : SourceSpan) (ns : Nodes) → IsSpacedContent compact number s level ns (or_empty_document o) b g → DocumentReads (document o at ns) → DocumentReads (document g at ns)
  document_reads compact level b o g at ns (x, y, c, e) d =
      subst (λ (z : Option DocumentFormat). DocumentReads (document z at ns)) (sym e) (DocumentReads.no_bom (of_old d))
    where
      trailing : SpacedLines number s level c.last (trailing_text o) y c.after_it
      trailing = subst (λ (u : Text). SpacedLines number s level c.last u y c.after_it) (trailing_is o) c.trailing

      of_old : DocumentReads (document o at ns) → ContentReads TextEnd x (y ++ newline_at_end compact ns) ns
      of_old (DocumentReads.no_bom d) = content_laid compact level b c.last c.after_it (without_bom (or_empty_document o).leading) (trailing_text o) x y c.leading trailing ns d
      of_old (DocumentReads.after_bom e d) = content_laid compact level b c.last c.after_it (without_bom (or_empty_document o).leading) (trailing_text o) x y c.leading trailing ns d
