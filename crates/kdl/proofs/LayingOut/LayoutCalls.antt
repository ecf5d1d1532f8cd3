-- What the calls that lay out promise, from what the layout makes.
use Rattle.kdl.proofs.Common.{◌≡◌, Keeping, keeping, nothing, ℕ, Bool, true, false, refl, sym, ap, ◌∙◌, subst, Result, OnOk, on_ok_weaker, is_space, print_document, print_node, Document, document_data, Node, node_data, at_start, IndentsBySpaces, Settings, defaults, settings, DocumentKeepsNone, NodeKeepsNone, IsLaidDocument, IsSpelledNode, Layout, NodeIsSpaced, StaysAs, RereadsDocument, RereadsNode, DocumentReadsBack, document_says, document_tree, node_says, node_tree, KdlDocument, KdlNode}
use Rattle.kdl_grammar.specs.Laid.{LaidDocument}
use Rattle.kdl_layout.specs.OneLine.{IsLaidNode}
use Rattle.kdl_layout.specs.Respelled.{IsSpelledDocument}
use Rattle.kdl_layout.specs.Spaced.{IsSpacedDocument, IsSpacedNode}
use Rattle.kdl_layout.specs.WithComments.{IsFormattedDocument, IsFormattedNode}
use Rattle.kdl_layout.proofs.Spacing.Stays as spaced
use Rattle.kdl_layout.proofs.Respelling.Leaves as left
use Rattle.kdl_layout.proofs.Respelling.Off as off
use Rattle.kdl_layout.proofs.Respelling.Written.{written_document, written_node}
use Rattle.kdl_layout.proofs.OneLine.Reads.{document_derived, node_derived}
use Rattle.kdl_layout.proofs.OneLine.Same as on_line
use Rattle.kdl_layout.proofs.OneLine.Same.{document_off, node_off}
use Rattle.kdl_layout.proofs.Keeping.CommentsStay.{comments_stay, node_comments_stay}
use Rattle.kdl_layout.proofs.Formatting.FormattedUnique as layout
use Rattle.kdl_layout.proofs.Formatting.PrintsCanonical.{bare_document_data, bare_node_data, document_canonical, node_canonical}
use Rattle.kdl_layout.proofs.Formatting.CanonicalReadsBack.{canonical_reads, canonical_node_reads}
use Rattle.kdl.specs.Internal.Spacing.{DocumentIsSpaced}
use Rattle.kdl.specs.Layout.{DocumentKeepsReading, DocumentLaidOut, NodeLaidOut, document_bare, node_bare}
use Rattle.kdl.specs.LaysOut.{FormatsDocument, FormatsNode, KeepsComments, KeepsDocument, KeepsNode, NodeKeepsComments}
use Rattle.kdl.proofs.Finding.SaidLookups.{finds_same, node_finds_same}

-- what layout makes where no block stays on one line
laid_off : (spelling : Keeping) (line compact : Bool) (number : ℕ) (s : Settings) (level : ℕ) (d x : Document) → line ≡ false → IsLaidDocument spelling line compact number s level d x → IsSpelledDocument spelling compact number s level d x
laid_off spelling true compact number s level d x e f = absurd cc
laid_off spelling false compact number s level d x e f = subst (λ (y : Document). IsSpelledDocument spelling compact number s level d y) (sym (f.2 ∙ document_off d f.0)) f.1

node_laid_off : (spelling : Keeping) (line compact : Bool) (number : ℕ) (s : Settings) (level : ℕ) (n x : Node) → line ≡ false → IsLaidNode spelling line compact number s level at_start n x → IsSpelledNode spelling compact number s level at_start n x
node_laid_off spelling true compact number s level n x e f = absurd cc
node_laid_off spelling false compact number s level n x e f = subst (λ (y : Node). IsSpelledNode spelling compact number s level at_start n y) (sym (f.2 ∙ node_off n f.0)) f.1

-- and where neither spellings nor comments inside entries stay
unspelled : (compact : Bool) (number : ℕ) (s : Settings) (level : ℕ) (d x : Document) → IsSpelledDocument nothing compact number s level d x → IsSpacedDocument compact number s level d x
unspelled compact number s level d x (m, f, r) = subst (λ (z : Document). IsSpacedDocument compact number s level d z) (sym (off.same_document s d m x r)) f

unspelled_node : (compact : Bool) (number : ℕ) (s : Settings) (level : ℕ) (n x : Node) → IsSpelledNode nothing compact number s level at_start n x → IsSpacedNode compact number s level at_start n x
unspelled_node compact number s level n x (m, f, r) = subst (λ (z : Node). IsSpacedNode compact number s level at_start n z) (sym (off.same_node s n m x r)) f

-- and where no blank lines stay, and a newline is in place of nodes
unspaced : (spelling : Keeping) (line compact : Bool) (number : ℕ) (s : Settings) (level : ℕ) (d x : Document) → number ≡ 0 → spelling ≡ nothing → line ≡ false → compact ≡ false → IsLaidDocument spelling line compact number s level d x → IsFormattedDocument s level d x
unspaced spelling line compact number s level d x e k o c f =
    let g = subst (λ (z : Keeping). IsSpelledDocument z compact number s level d x) k (laid_off spelling line compact number s level d x o f) in
    unspelled false 0 s level d x (subst (λ (z : ℕ). IsSpelledDocument nothing false z s level d x) e (subst (λ (z : Bool). IsSpelledDocument nothing z number s level d x) c g))

node_unspaced : (spelling : Keeping) (line compact : Bool) (number : ℕ) (s : Settings) (level : ℕ) (n x : Node) → number ≡ 0 → spelling ≡ nothing → line ≡ false → compact ≡ false → IsLaidNode spelling line compact number s level at_start n x → IsFormattedNode s level n x
node_unspaced spelling line compact number s level n x e k o c f =
    let g = subst (λ (z : Keeping). IsSpelledNode z compact number s level at_start n x) k (node_laid_off spelling line compact number s level n x o f) in
    unspelled_node false 0 s level n x (subst (λ (z : ℕ). IsSpelledNode nothing false z s level at_start n x) e (subst (λ (z : Bool). IsSpelledNode nothing z number s level at_start n x) c g))

-- a call that laid out a document, whose texts can be printed, or a node
module _ {A E : Type 0} (r : Result A E) (l : Layout) where
  abbrev s : Settings
  s = settings l.config

  module _ (d e : KdlDocument) (kept : document_bare e ≡ document_bare d) (laid : OnOk r (DocumentIsSpaced l d e)) where
    abbrev old : Document
    old = document_tree d

    same : document_says e ≡ document_says d
    same = sym (bare_document_data (document_tree e)) ∙ ap document_data kept ∙ bare_document_data old

    pub keeps_document : KeepsDocument s d e r
    keeps_document = record {
      «data» = same;
      finds = finds_same d e same;
      kept = kept;
      levels = on_ok_weaker r (λ (f : DocumentIsSpaced l d e). spaced.document_levels_fit l.compact_empty l.blank_lines s s.indent_level old f.0.1.0 f.0.1.1) laid;
      keeps_none = on_ok_weaker r
          (λ (p : DocumentIsSpaced l d e). let f = p.0 in
          subst DocumentKeepsNone (sym f.2) (on_line.document_keeps_none l.keep_one_line old f.0 (left.document_keeps_none (keeping l) s old f.1.0 f.0 (spaced.document_keeps_none l.compact_empty l.blank_lines s s.indent_level old f.1.0 f.1.1) f.1.2)))
          laid;
    }

    pub rereads_document : (IndentsBySpaces s → DocumentKeepsReading s d → DocumentReadsBack d → DocumentReadsBack e) → IndentsBySpaces s → RereadsDocument s d e r
    rereads_document back ok = record {
      reads_back = back ok;
      derived = λ flag. on_ok_weaker r (λ (f : DocumentIsSpaced l d e). λ none. document_derived l.compact_empty l.blank_lines s ok l.keep_one_line flag (keeping l) s.indent_level old (document_tree e) f.0 none f.1 same) laid;
      comments = λ flag with. on_ok_weaker r
          (λ (p : DocumentIsSpaced l d e). λ none y is i h. let f = p.0 in
          comments_stay false l.compact_empty l.blank_lines s ok with l.keep_one_line s.indent_level 0 old f.0 y is i (written_document l.compact_empty l.blank_lines s flag (keeping l) s.indent_level old f.1.0 f.0 f.1.1 f.1.2 none p.1) (λ e. absurd cc)
          (subst (λ (z : Document). LaidDocument y (print_document z 0)) f.2 h))
          laid;
      reads = on_ok_weaker r (λ (f : DocumentIsSpaced l d e). canonical_reads s.indent ok s.indent_level (document_says d) f.1) laid;
    }

    pub keeps_comments : KeepsComments l d e r
    keeps_comments on with ok flag = on_ok_weaker r
        (λ (p : DocumentIsSpaced l d e). λ none y is i h. let f = p.0 in
        comments_stay true l.compact_empty l.blank_lines s ok with l.keep_one_line s.indent_level 0 old f.0 y is i (written_document l.compact_empty l.blank_lines s flag (keeping l) s.indent_level old f.1.0 f.0 f.1.1 f.1.2 none p.1) (λ z. on)
        (subst (λ (z : Document). LaidDocument y (print_document z 0)) f.2 h))
        laid

    pub formats_document : l.blank_lines ≡ 0 → keeping l ≡ nothing → l.keep_one_line ≡ false → l.compact_empty ≡ false → FormatsDocument s d e r
    formats_document blank spelling line compact =
        let f : DocumentIsSpaced l d e → DocumentLaidOut s d e = λ h. unspaced (keeping l) l.keep_one_line l.compact_empty l.blank_lines s s.indent_level old (document_tree e) blank spelling line compact h.0 in
        record {
          formatted = on_ok_weaker r f laid;
          plain = λ no. on_ok_weaker r (λ (h : DocumentIsSpaced l d e). layout.document_left_out s s.indent_level old (document_tree e) no (f h)) laid;
          prints = λ plain. on_ok_weaker r
              (λ (h : DocumentIsSpaced l d e). λ none. ap (λ (y : Document). print_document y 0) (layout.document_left_out s s.indent_level old (document_tree e) plain.0 (f h)) ∙ document_canonical s s.indent_level 0 old plain none)
              laid;
        }

  -- one that laid out a node
  module _ (n m : KdlNode) (kept : node_bare m ≡ node_bare n) (laid : OnOk r (NodeIsSpaced l s.indent_level at_start (node_tree n) (node_tree m))) where
    abbrev IsLaid : Type 0
    IsLaid = NodeIsSpaced l s.indent_level at_start (node_tree n) (node_tree m)

    abbrev old_node : Node
    old_node = node_tree n

    same_node : node_says m ≡ node_says n
    same_node = sym (bare_node_data (node_tree m)) ∙ ap node_data kept ∙ bare_node_data old_node

    pub keeps_node : KeepsNode s n m r
    keeps_node = record {
      «data» = same_node;
      finds = node_finds_same n m same_node;
      kept = kept;
      levels = on_ok_weaker r (λ (f : IsLaid). spaced.levels_fit l.compact_empty l.blank_lines s s.indent_level at_start old_node f.0.1.0 f.0.1.1) laid;
      keeps_none = on_ok_weaker r
          (λ (p : IsLaid). let f = p.0 in
          subst NodeKeepsNone (sym f.2) (on_line.node_keeps_none l.keep_one_line old_node f.0 (left.keeps_none (keeping l) s old_node f.1.0 f.0 (spaced.keeps_none l.compact_empty l.blank_lines s s.indent_level at_start old_node f.1.0 f.1.1) f.1.2)))
          laid;
    }

    pub rereads_node : (IndentsBySpaces s → StaysAs s (node_tree n) (node_tree m)) → IndentsBySpaces s → RereadsNode s n m r
    rereads_node stays ok = record {
      reads_back = λ k P h. (stays ok P (h, k)).0;
      derived = λ flag. on_ok_weaker r (λ (f : IsLaid). λ none. node_derived l.compact_empty l.blank_lines s ok l.keep_one_line flag (keeping l) s.indent_level at_start old_node (node_tree m) f.0 none f.1 same_node) laid;
      comments = λ flag with. on_ok_weaker r
          (λ (p : IsLaid). λ none z is i h. let f = p.0 in
          node_comments_stay false l.compact_empty l.blank_lines s ok with l.keep_one_line s.indent_level 0 at_start old_node f.0 z is i (written_node l.compact_empty l.blank_lines s flag (keeping l) s.indent_level at_start old_node f.1.0 f.0 f.1.1 f.1.2 none p.1) (λ e. absurd cc)
          (subst (λ (w : Node). LaidDocument z (print_node w 0)) f.2 h))
          laid;
      reads = on_ok_weaker r (λ (f : IsLaid). canonical_node_reads s.indent ok s.indent_level (node_says n) f.1) laid;
    }

    pub node_keeps_comments : NodeKeepsComments l n m r
    node_keeps_comments on with ok flag = on_ok_weaker r
        (λ (p : IsLaid). λ none z is i h. let f = p.0 in
        node_comments_stay true l.compact_empty l.blank_lines s ok with l.keep_one_line s.indent_level 0 at_start old_node f.0 z is i (written_node l.compact_empty l.blank_lines s flag (keeping l) s.indent_level at_start old_node f.1.0 f.0 f.1.1 f.1.2 none p.1) (λ e. on)
        (subst (λ (w : Node). LaidDocument z (print_node w 0)) f.2 h))
        laid

    pub formats_node : l.blank_lines ≡ 0 → keeping l ≡ nothing → l.keep_one_line ≡ false → l.compact_empty ≡ false → FormatsNode s n m r
    formats_node blank spelling line compact =
        let f : IsLaid → NodeLaidOut s n m = λ h. node_unspaced (keeping l) l.keep_one_line l.compact_empty l.blank_lines s s.indent_level old_node (node_tree m) blank spelling line compact h.0 in
        record {
          formatted = on_ok_weaker r f laid;
          plain = λ no. on_ok_weaker r (λ (h : IsLaid). layout.left_out s s.indent_level at_start old_node (node_tree m) no (f h)) laid;
          prints = λ plain. on_ok_weaker r
              (λ (h : IsLaid). λ none. ap (λ (z : Node). print_node z 0) (layout.left_out s s.indent_level at_start old_node (node_tree m) plain.0 (f h)) ∙ node_canonical s s.indent_level 0 old_node plain none)
              laid;
        }

-- the four spaces of the default configuration
pub spaces_are : IndentsBySpaces defaults
unfolding is_space
spaces_are = refl

-- with settings that are known
pub settled : (s t : Settings) (P : Settings → Type 0) → s ≡ t → IndentsBySpaces t → (IndentsBySpaces s → P s) → P t
settled s t P e ok h = subst (λ (z : Settings). IndentsBySpaces z → P z) e h ok
