-- A block that is put on one line reads back.
use Rattle.kdl_layout.proofs.Common.{◌≡◌, Keeping, ℕ, ◌+◌, Bool, true, false, List, [], ◌∷◌, refl, sym, ap, subst, ◌∙◌, Option, Some, append_assoc, and_parts, All-nil, All-cons, All, list_all, ◌&&◌, Text, is_space, Star, LineSpace, SourceSpan, Entry, Terminator, no_gap, line_space, IsDocument, AfterChildren, BeforeChildren, print_document, print_node, Rests, Anything, TextEnd, EntryReads, HeadReads, EndReads, NodeReads, reads, ChildrenRead, a_block, NodesRead, no_node, last_node, next_node, ContentReads, two_texts, with_nodes, BlockReads, DocumentReads, NodeFormat, DocumentFormat, Head, Node, node, node_data, Children, no_children, Document, document, document_data, Nodes, none, first, children_data, nodes_data, at_start, Settings, indentation, or_empty, or_empty_document, newline_at_end, NodeKeepsNone, DocumentKeepsNone, ChildrenKeepNone, NodesKeepNone, without_bom, IsLaidDocument, IsLaidNode, braces_in_line, braces_on_line, head_on_line, in_one_line, is_on_one_line, node_in_line, nodes_in_line, nodes_on_line, one_lined_node, one_lined_children, one_lined_document, one_lined_nodes, TypeTexts, with_type_texts, SpacesTexts, IsWellFormedNode, AreWellFormed, AreWellFormedChildren, NodeTexts, line_of, has_block, Before}
use Rattle.kdl_grammar.specs.Data as data'
use Rattle.kdl_grammar.specs.ReadsBack.{BlockEnd, no_block, block}
use Rattle.kdl_grammar.proofs.ReadingBack.Composing.{node_before}
use Rattle.kdl_grammar.proofs.ReadingBack.Reads as back
use Rattle.kdl_layout.proofs.Formatting.EntriesRead.{written_reads, empty_gap}
use Rattle.kdl_layout.proofs.Formatting.PartsRead.{AreLined, all_end, braced_reads, content_with, line_block, line_end, line_head, lines_add}
use Rattle.kdl_layout.proofs.OneLine.Nothing.{bare_line, head_parts}
use Rattle.kdl_layout.proofs.OneLine.Same.{block_stays, nodes_flat, one_or_more}
use Rattle.kdl_layout.proofs.Respelling.Written.{AreWrittenEntries, head_line, written_head}
use Rattle.kdl_layout.proofs.Spacing.Lines.{lines_gap}
use Rattle.kdl_layout.proofs.Respelling.Spelled.{SpelledNode, spelled, SpelledChildren, blockless, spelled_block, SpelledNodes, nodeless, one_more, SpelledDocument, spelled_document, spelled_node, same_block}
use Rattle.kdl_layout.proofs.Rewriting.PlacesAgain.{one_space}

-- nothing comes before a `;`, and a space before a `}`
pub nothing_before : (t : Text) → BeforeChildren t t
nothing_before t = BeforeChildren.before Star.none (AfterChildren.after Star.none Star.none)

pub space_before : (t : Text) → BeforeChildren (32 ∷ t) t
space_before t = BeforeChildren.before Star.none (AfterChildren.after Star.none (Star.more (one_space t) Star.none))

closes : (r : Text) → (t : Text) × (r ≡ 125 ∷ t) → Terminator r r
closes r (t, e) = subst (λ (x : Text). Terminator x x) (sym e) Terminator.at_close

-- a node on its own line, put on the line of its block
module _ (ind : Text) (k : NodeTexts) (h : Head) where
  head_in_line : (last : Bool) → HeadReads h (line_of ind k) → HeadReads (record h { format = Some (node_in_line last) }) (node_in_line last)
  head_in_line last x = record { leading = λ r. line_space (LineSpace.space (one_space _)) no_gap; name = λ v d. x.name v d; entries = x.entries }

  followed : (Q : Rests) → HeadReads h (line_of ind k) → NodeReads Q (node (record h { format = Some (node_in_line false) }) no_children)
  followed Q x = reads refl (head_in_line false x) no_block (record { place = λ r p t. nothing_before (59 ∷ r); terminator = λ r s xs p z d. (r, Terminator.semicolon, d) })

  last_one : (g : DocumentFormat) → HeadReads h (line_of ind k) → NodeReads (BlockEnd (Some g)) (node (record h { format = Some (node_in_line true) }) no_children)
  last_one g x = reads refl (head_in_line true x) no_block (record { place = λ r p t. space_before r; terminator = λ r s xs p z d. (r, closes r p, d) })

  read_head : {P : Rests} {y : Children} → h.format ≡ Some (line_of ind k) → NodeReads P (node h y) → HeadReads h (line_of ind k)
  read_head e (reads {f = f} g x kids end) = subst (HeadReads h) (ap or_empty (sym g ∙ e)) x

-- nodes on one line
nodes_in_line_read : {compact : Bool} {number : ℕ} {s : Settings} {keep : Keeping} {P : Rests} (g : DocumentFormat) {level : ℕ} {b : Before} {ns xs : Nodes} → nodes_on_line ns ≡ true → SpelledNodes compact number s keep level b ns xs → NodesRead P xs
    → NodesRead (BlockEnd (Some g)) (nodes_in_line xs)
nodes_in_line_read g h nodeless x = no_node
nodes_in_line_read g h (one_more (spelled f (spelled_block c at nodes)) p fs) x = absurd cc
nodes_in_line_read {number = number} {s = s} g h (one_more {level = level} {b = b} (spelled {h = y} {x = y'} f blockless) p nodeless) (last_node x) =
    let l = head_line level false b y y' f in
    let e = and_parts (head_on_line true y) true h in
    last_node (last_one (indentation s level) l.texts y' g (read_head (indentation s level) l.texts y' (bare_line number s level true b (or_empty y.format) y'.ty y'.format l (head_parts true y e.0).line) x))
nodes_in_line_read {number = number} {s = s} g h (one_more {level = level} {b = b} (spelled {h = y} {x = y'} f blockless) p (one_more {n = n} {x = node z k} {ns = ns} q r fs)) (next_node x xs) =
    let l = head_line level false b y y' f in
    let e = and_parts (head_on_line false y) (nodes_on_line (first n ns)) h in
    next_node (followed (indentation s level) l.texts y' Anything (read_head (indentation s level) l.texts y' (bare_line number s level false b (or_empty y.format) y'.ty y'.format l (head_parts false y e.0).line) x))
    (nodes_in_line_read g e.1 (one_more q r fs) xs)

content_in_line : (ns : Nodes) → NodesRead (BlockEnd (Some braces_in_line)) (nodes_in_line ns) → ContentReads (BlockEnd (Some braces_in_line)) [] [] (nodes_in_line ns)
content_in_line none x = two_texts (λ r q xs z d. d) (λ r p. no_gap)
content_in_line (first (node h k) ns) x = with_nodes (λ r q xs z d. d) x (λ r p. no_gap)

pub one_line_reads : (compact : Bool) (number : ℕ) (s : Settings) {P : Rests} (level : ℕ) (b : Before) (ns xs : Nodes) (at : SourceSpan) → nodes_on_line ns ≡ true → AreLined compact number s level b ns xs → NodesRead P xs
    → BlockReads (document (Some braces_in_line) at (nodes_in_line xs))
one_line_reads compact number s level b ns xs at h (keep, f) x = block (content_in_line xs (nodes_in_line_read braces_in_line h f x))

module _ (compact : Bool) (number : ℕ) (s : Settings) (ok : list_all is_space s.indent ≡ true) (keep : Bool) where
  -- a node that is laid out ends by itself
  node_ends : {spelling : Keeping} {P Q : Rests} {level : ℕ} {b : Before} {n x : Node} → SpelledNode compact number s spelling level b n x → NodeReads P (one_lined_node keep n x) → NodeReads Q (one_lined_node keep n x)
  node_ends {Q = Q} (spelled {level = level} {b = b} {h = h} {x = x} {k = k} {l = l} f kids) (reads {f = g} e head below end) =
      let line = head_line level (has_block k) b h x f in
      let same : g ≡ with_type_texts line.types (line_of (indentation s level) line.texts) = ap or_empty (sym e ∙ line.is) in
      reads e head below
      (subst (λ (z : NodeFormat). EndReads Q (one_lined_children keep k l) z) (sym same)
      (line_end number s ok level (has_block k) b (or_empty h.format) line.texts line.types line.kept (one_lined_children keep k l) (sym (same_block kids) ∙ sym (block_stays keep k l)) Q))

  nodes_end : {spelling : Keeping} {P Q : Rests} {level : ℕ} {b : Before} {ns xs : Nodes} → SpelledNodes compact number s spelling level b ns xs → NodesRead P (one_lined_nodes keep ns xs) → NodesRead Q (one_lined_nodes keep ns xs)
  nodes_end nodeless x = no_node
  nodes_end (one_more f p nodeless) (last_node x) = last_node (node_ends f x)
  nodes_end (one_more f p (one_more g q fs)) (next_node x xs) = next_node x (nodes_end (one_more g q fs) xs)

  pub content_ends : {P : Rests} {l t : Text} (level : ℕ) (b : Before) (ns xs : Nodes) → AreLined compact number s level b ns xs → ContentReads P l t (one_lined_nodes keep ns xs) → NodesRead Anything (one_lined_nodes keep ns xs)
  content_ends level b ns xs (spelling, f) x = go f x
    where
      go : {P : Rests} {l t : Text} {ns xs : Nodes} → SpelledNodes compact number s spelling level b ns xs → ContentReads P l t (one_lined_nodes keep ns xs) → NodesRead Anything (one_lined_nodes keep ns xs)
      go nodeless x = no_node
      go (one_more f p fs) (with_nodes a x g) = nodes_end (one_more f p fs) x

  -- what is laid out reads back, whether the old text did or not
  entries_read : (es es' : List Entry) → AreWrittenEntries s es es' → All EntryReads es'
  entries_read [] [] f = All-nil EntryReads
  entries_read (e ∷ es) (e' ∷ es') f = All-cons EntryReads e' es' (written_reads s e e' f.0) (entries_read es es' f.1)
  entries_read _ _ f = absurd assumption

  module _ (no_keep : s.entry_autoformate_keep ≡ false) (spelling : Keeping) where
    mutual
      node_reads : (Q : Rests) {level : ℕ} {b : Before} {n x : Node} → SpelledNode compact number s spelling level b n x → NodeKeepsNone n → IsWellFormedNode (node_data n) → NodeReads Q (one_lined_node keep n x)
      node_reads Q (spelled {level = level} {b = b} {h = h} {x = x} {k = k} {l = l} f kids) o w =
          let y = written_head s no_keep spelling level (has_block k) b h x k f o.0 w in
          let t = y.format.texts in
          let types = y.format.types in
          let kept = y.format.kept in
          let old = or_empty h.format in
          reads y.format.is (line_head number s ok level (has_block k) b old t types kept x y.ty y.name y.format.spaces y.format.untyped (entries_read h.entries x.entries y.entries))
          (children_read b old t types kids o.1 w.3 kept)
          (line_end number s ok level (has_block k) b old t types kept (one_lined_children keep k l) (sym (same_block kids) ∙ sym (block_stays keep k l)) Q)

      children_read : {level : ℕ} (b : Before) (f : NodeFormat) (t : NodeTexts) (w : TypeTexts) {k l : Children} → SpelledChildren compact number s spelling level k l → ChildrenKeepNone k → AreWellFormedChildren (children_data k)
          → SpacesTexts number s level (has_block k) b f t → ChildrenRead (with_type_texts w (line_of (indentation s level) t)) (one_lined_children keep k l)
      children_read b f t w blockless o v kept = no_block
      children_read b f t w (spelled_block {level = level} {b = b'} {f = g} {g = g'} {at = at} {at' = at'} {ns = ns} {xs = xs} c same nodes) o v kept =
          let x = nodes_read nodes o v in
          a_block (line_block number s ok level true b f t w kept refl)
          (one_or_more BlockReads (keep && is_on_one_line (document g at ns)) (in_one_line (document g' at' xs)) (one_lined_document keep (document g at ns) (document g' at' xs))
          (λ e. let h = (and_parts (braces_on_line g) (nodes_on_line ns) (and_parts keep (is_on_one_line (document g at ns)) e).1).1 in
          one_line_reads compact number s (level + 1) b' ns xs at' h (spelling, nodes) (subst (NodesRead Anything) (nodes_flat keep ns xs h) x))
          (λ e. braced_reads number s ok compact level ns (or_empty_document g) b' g' at' (one_lined_nodes keep ns xs) c x))

      nodes_read : {level : ℕ} {b : Before} {ns xs : Nodes} → SpelledNodes compact number s spelling level b ns xs → NodesKeepNone ns → AreWellFormed (nodes_data ns) → NodesRead Anything (one_lined_nodes keep ns xs)
      nodes_read nodeless o w = no_node
      nodes_read (one_more f p fs) o w = node_before (node_reads Anything f o.0 w.0) (nodes_read fs o.1 w.1)

    document_reads : (level : ℕ) (d x : Document) → SpelledDocument compact number s spelling level d x → DocumentKeepsNone d → AreWellFormed (document_data d) → DocumentReads (one_lined_document keep d x)
    document_reads level (document f at ns) (document f' at' xs) (b, c, same, nodes) o w =
        let ms = one_lined_nodes keep ns xs in
        let k = c.2 in
        subst (λ (g : Option DocumentFormat). DocumentReads (document g at' ms)) (sym c.3)
        (DocumentReads.no_bom (content_with ms (lines_add number s ok level at_start b (without_bom (or_empty_document f).leading) c.0 k.leading) (all_end _ (nodes_read nodes o w))
        (λ r p. rw (append_assoc c.1 (newline_at_end compact ns) r) (lines_gap s ok number level k.last k.after_it (or_empty_document f).trailing c.1 k.trailing (empty_gap compact ns no_gap)))))

    -- so its text is a document with its data
    pub document_derived : (level : ℕ) (d x : Document) → IsLaidDocument spelling keep compact number s level d x → DocumentKeepsNone d → AreWellFormed (document_data d) → document_data x ≡ document_data d → IsDocument (print_document x 0) (document_data d)
    document_derived level d x (r, (m, f, q), same) bare w same_data =
        subst (IsDocument (print_document x 0)) same_data (back.reads_derived x (subst DocumentReads (sym same) (document_reads level d r (spelled_document compact number s spelling level d m r f q) bare w)))

    pub node_derived : (level : ℕ) (b : Before) (n x : Node) → IsLaidNode spelling keep compact number s level b n x → NodeKeepsNone n → IsWellFormedNode (node_data n) → node_data x ≡ node_data n
        → IsDocument (print_node x 0) (data'.first (node_data n) data'.none)
    node_derived level b n x (r, (m, f, q), same) bare w same_data =
        subst (λ (y : data'.Node). IsDocument (print_node x 0) (data'.first y data'.none)) same_data (back.node_derived x (subst (NodeReads TextEnd) (sym same) (node_reads TextEnd (spelled_node compact number s spelling level b n m r f q) bare w)))
