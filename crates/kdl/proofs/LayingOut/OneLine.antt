-- A block that is laid out, with its texts: on one line, or on more.
use Rattle.kdl.proofs.Common.{◌≡◌, keeping, keeps_texts, ℕ, suc, ◌+◌, ◌<◌, ◌==◌, Bool, true, false, List, [], ◌∷◌, length, map, Option, None, Some, option_map, refl, sym, ap, ◌∙◌, subst, eqb-true, list_all, ◌&&◌, is_some, not, is_space, SourceSpan, entry_tree, identifier_tree, Anything, BlockEnd, ContentReads, NodesRead, BlockReads, block, leading_text, trailing_text, DocumentFormat, NodeFormat, Head, Node, node, children, children_of, Document, document, Nodes, listed_nodes, node_data, block_reads, with_block, document_format_tree, node_format_tree, IndentsBySpaces, Settings, settings, or_empty, or_empty_document, Keeps, KeepsName, with_spelling, with_spelling_if, NodesKeepReading, formats_in_line, is_on_one_line, nodes_on_line, one_lined_node, one_lined_nodes, AreSpelledEntries, IsTypedFormat, IsSpacedChildren, IsSpacedLine, IsWellFormedNode, Before, Layout, SpellingRule, BlockIsSpaced, IsAround, IsAroundIf, NodeIsSpaced, NodesAreSpaced, StaysAs, braces_of, enclosed, filled, filled_block, lined, with_braces, with_formats, with_texts, document_tree, head_tree, node_tree, nodes_tree, KdlDocument, out-KdlDocument, out-KdlNode, Around, KdlNode}
use Rattle.std.proofs.Common.{◌^◌}
use Rattle.std.proofs.lemmas.Bool.{and_parts}
use Rattle.kdl_layout.specs.OneLine.{braces_in_line, braces_on_line, in_one_line, node_in_line, nodes_in_line, one_lined_children, one_lined_document}
use Rattle.kdl_layout.specs.Spaced.{IsSpacedBraced}
use Rattle.kdl_layout.proofs.Formatting.PartsRead as parts
use Rattle.kdl_layout.proofs.Formatting.PartsRead.{AreLined, braced_reads}
use Rattle.kdl_layout.proofs.OneLine.Reads.{content_ends, one_line_reads}
use Rattle.kdl_layout.proofs.OneLine.Same.{nodes_flat}
use Rattle.kdl.specs.Internal.Spacing.{BlockSpacing}
use Rattle.kdl.proofs.LayingOut.Lines.{no_formats}
use Rattle.kdl.proofs.LayingOut.PartsSpaced.{NodesLaid, laid_node, nodes_laid}
use Rattle.kdl.proofs.Trees.{document_tree_out, node_tree_out}

-- nodes with formats
not_zero : (b : Bool) (n : ℕ) → (suc n == 0) ≡ b → b ≡ false
not_zero true n e = let z : suc n ≡ 0 = eqb-true (suc n) 0 e in absurd cc
not_zero false n e = refl

formats_are : (ms : List Node) → listed_nodes (with_formats (formats_in_line (length ms)) ms) ≡ nodes_in_line (listed_nodes ms)
formats_are [] = refl
formats_are (node h k ∷ []) = refl
formats_are (node h k ∷ m ∷ ms) =
    ap (λ (b : Bool). Nodes.first (node (record h { format = Some (node_in_line b) }) k) (listed_nodes (with_formats (formats_in_line (length (m ∷ ms))) (m ∷ ms)))) (not_zero (suc (length ms) == 0) (length ms) refl)
    ∙ ap (Nodes.first (node (record h { format = Some (node_in_line false) }) k)) (formats_are (m ∷ ms))

formats_keep : (s : Settings) (fs : List NodeFormat) (ms : List Node) → NodesKeepReading s (listed_nodes ms) → NodesKeepReading s (listed_nodes (with_formats fs ms))
formats_keep s fs [] k = k
formats_keep s [] (m ∷ ms) k = k
formats_keep s (f ∷ fs) (node h k' ∷ ms) k = (k.0, formats_keep s fs ms k.1)

-- as many nodes
same_length : (l : Layout) (level : ℕ) (b : Before) (ns : List KdlNode) (ms : List Node) → NodesAreSpaced l level b (map node_tree ns) ms → length ms ≡ length ns
same_length l level b [] [] h = refl
same_length l level b [] (m ∷ ms) h = absurd h
same_length l level b (n ∷ ns) [] h = absurd h
same_length l level b (n ∷ ns) (m ∷ ms) h = ap suc (same_length l level h.0 ns ms h.3)

-- whether a block stays on one line
on_more : (keep : Bool) (d d' : Document) → (keep && is_on_one_line d) ≡ false → one_lined_children keep (children d) (children d') ≡ children (one_lined_document keep d d')
on_more keep d d' e = rw e refl

on_one : (keep : Bool) (d d' : Document) → (keep && is_on_one_line d) ≡ true → one_lined_children keep (children d) (children d') ≡ children (in_one_line d')
on_one keep d d' e = rw e refl

module _ (l : Layout) (level : ℕ) (f : Option DocumentFormat) (at : SourceSpan) (ns : List KdlNode) (c : Before) (g : DocumentFormat) (a : Around)
    (braced : IsSpacedBraced l.compact_empty l.blank_lines (settings l.config) level (nodes_tree ns) (or_empty_document f) c (Some g)) (ms : List Node) (z : NodesAreSpaced l (level + 1) c (map node_tree ns) ms) where
  abbrev old : Document
  old = document f at (nodes_tree ns)

  abbrev w : NodesLaid l (level + 1) c (map node_tree ns) ms
  w = nodes_laid l (level + 1) c (map node_tree ns) ms z

  abbrev mid : Document
  mid = document (Some g) at (listed_nodes w.nodes)

  abbrev new : Document
  new = document (Some (document_format_tree a.braces)) at (listed_nodes (with_formats (map node_format_tree a.line.items) ms))

  -- each node is on lines of its own
  on_lines : AreLined l.compact_empty l.blank_lines (settings l.config) (level + 1) c (nodes_tree ns) (listed_nodes w.nodes)
  on_lines = parts.lined l.compact_empty l.blank_lines (settings l.config) (keeping l) (level + 1) c (nodes_tree ns) (listed_nodes w.between) (listed_nodes w.nodes) w.spaced w.respelled

  -- the nodes end by themselves
  nodes_end : list_all is_space (settings l.config).indent ≡ true → BlockReads (document f at (listed_nodes ms)) → NodesRead Anything (one_lined_nodes l.keep_one_line (nodes_tree ns) (listed_nodes w.nodes))
  nodes_end ok (block y) =
      content_ends l.compact_empty l.blank_lines (settings l.config) ok l.keep_one_line (level + 1) c (nodes_tree ns) (listed_nodes w.nodes) on_lines (subst (λ (x : Nodes). ContentReads (BlockEnd f) (leading_text f) (trailing_text f) x) w.same y)

  module _ (e : (l.keep_one_line && is_on_one_line old) ≡ false) (b : document_format_tree a.braces ≡ g) (n : a.line.items ≡ []) where
    more_is : new ≡ document (Some g) at (listed_nodes ms)
    more_is = ap (λ (x : DocumentFormat). document (Some x) at (listed_nodes (with_formats (map node_format_tree a.line.items) ms))) b
        ∙ ap (λ x. document (Some g) at (listed_nodes (with_formats (map node_format_tree x) ms))) n
        ∙ ap (λ (x : List Node). document (Some g) at (listed_nodes x)) (no_formats ms)

    more_same : children new ≡ one_lined_children l.keep_one_line (children old) (children mid)
    more_same = ap children (more_is ∙ ap (document (Some g) at) w.same) ∙ sym (on_more l.keep_one_line old mid e)

    more_reads : list_all is_space (settings l.config).indent ≡ true → BlockReads (document f at (listed_nodes ms)) → BlockReads new
    more_reads ok x =
        subst BlockReads (sym more_is)
        (braced_reads l.blank_lines (settings l.config) ok l.compact_empty level (nodes_tree ns) (or_empty_document f) c (Some g) at (listed_nodes ms) braced (subst (NodesRead Anything) (sym w.same) (nodes_end ok x)))

  module _ (e : (l.keep_one_line && is_on_one_line old) ≡ true) (b : document_format_tree a.braces ≡ braces_in_line) (n : map node_format_tree a.line.items ≡ formats_in_line (length ns)) where
    on_line : nodes_on_line (nodes_tree ns) ≡ true
    on_line = (and_parts (braces_on_line f) (nodes_on_line (nodes_tree ns)) (and_parts l.keep_one_line (is_on_one_line old) e).1).1

    flat : one_lined_nodes l.keep_one_line (nodes_tree ns) (listed_nodes w.nodes) ≡ listed_nodes w.nodes
    flat = nodes_flat l.keep_one_line (nodes_tree ns) (listed_nodes w.nodes) on_line

    one_is : new ≡ in_one_line mid
    one_is = ap (λ (x : DocumentFormat). document (Some x) at (listed_nodes (with_formats (map node_format_tree a.line.items) ms))) b
        ∙ ap (λ (x : List NodeFormat). document (Some braces_in_line) at (listed_nodes (with_formats x ms))) (n ∙ ap formats_in_line (sym (same_length l (level + 1) c ns ms z)))
        ∙ ap (document (Some braces_in_line) at) (formats_are ms ∙ ap nodes_in_line (w.same ∙ flat))

    one_same : children new ≡ one_lined_children l.keep_one_line (children old) (children mid)
    one_same = ap children one_is ∙ sym (on_one l.keep_one_line old mid e)

    one_reads : list_all is_space (settings l.config).indent ≡ true → BlockReads (document f at (listed_nodes ms)) → BlockReads new
    one_reads ok x =
        subst BlockReads (sym one_is)
        (one_line_reads l.compact_empty l.blank_lines (settings l.config) (level + 1) c (nodes_tree ns) (listed_nodes w.nodes) at on_line on_lines (subst (NodesRead Anything) flat (nodes_end ok x)))

  alike : (b : Bool) → (l.keep_one_line && is_on_one_line old) ≡ b → IsAroundIf b (length ns) g a → children new ≡ one_lined_children l.keep_one_line (children old) (children mid)
  alike true e q = one_same e q.0 q.1
  alike false e q = more_same e q.0 q.1

  back : (b : Bool) → (l.keep_one_line && is_on_one_line old) ≡ b → IsAroundIf b (length ns) g a → list_all is_space (settings l.config).indent ≡ true → BlockReads (document f at (listed_nodes ms)) → BlockReads new
  back true e q ok x = one_reads e q.0 q.1 ok x
  back false e q ok x = more_reads e q.0 q.1 ok x

-- the block of a document
pub document_block : (l : Layout) (level : ℕ) (d : KdlDocument) (c : Before) (g : DocumentFormat) (a : Around)
    → IsSpacedBraced l.compact_empty l.blank_lines (settings l.config) level (nodes_tree (out-KdlDocument d).nodes.items) (or_empty_document (option_map document_format_tree (out-KdlDocument d).format)) c (Some g)
    → IsAround l d g a → level + 1 < 2 ^ 64 → BlockIsSpaced l level (Some d) c (Some a)
document_block l level d c g a braced around fits ms z =
    let D = out-KdlDocument d in
    let f = option_map document_format_tree D.format in
    let ns = D.nodes.items in
    let s = settings l.config in
    let keep = l.keep_one_line in
    let made = nodes_laid l (level + 1) c (map node_tree ns) ms z in
    let old' = document f D.span (nodes_tree ns) in
    let mid' = document (Some g) D.span (listed_nodes made.nodes) in
    let new' = document (Some (document_format_tree a.braces)) D.span (listed_nodes (with_formats (map node_format_tree a.line.items) ms)) in
    let there : IsAroundIf (keep && is_on_one_line old') (length ns) g a = subst (λ (x : Document). IsAroundIf (keep && is_on_one_line x) (length ns) g a) (document_tree_out d) around in
    record {
      braces = Some g;
      between = made.between;
      nodes = made.nodes;
      spaced = subst (λ (x : Document). IsSpacedChildren l.compact_empty l.blank_lines s level (children x) (children (document (Some g) D.span (listed_nodes made.between)))) (sym (document_tree_out d)) (c, braced, refl, made.spaced, fits);
      respelled = made.respelled;
      same = subst (λ (x : Document). children new' ≡ one_lined_children keep (children x) (children mid')) (sym (document_tree_out d)) (alike l level f D.span ns c g a braced ms z (keep && is_on_one_line old') refl there);
      stays = λ ok h P x. (
        with_block new' x.0 (back l level f D.span ns c g a braced ms z (keep && is_on_one_line old') refl there ok (block_reads x.0)),
        (x.1.0, formats_keep s (map node_format_tree a.line.items) ms x.1.1),
      );
    }

-- no block
pub no_block_laid : (l : Layout) (level : ℕ) (c : Before) (g : Option Around) → BlockIsSpaced l level None c g
no_block_laid l level c g ms z = record { braces = None; between = []; nodes = []; spaced = tt; respelled = tt; same = refl; stays = λ ok h P x. x }

-- a node of which all but the block is laid out
module _ (l : Layout) (m n : KdlNode) (is : (out-KdlNode m).children ≡ (out-KdlNode n).children) (g : Option Around) (ms : List Node) where
  pub one_lined : (x : Option DocumentFormat) (xs : List Node)
      → with_texts (braces_of g) (filled_block (out-KdlNode n).children (lined g ms)) ≡ one_lined_children l.keep_one_line (children_of (option_map document_tree (out-KdlNode n).children)) (with_texts x (filled_block (out-KdlNode n).children xs))
      → enclosed g m ms ≡ one_lined_node l.keep_one_line (node_tree n) (with_braces x (filled m xs))
  one_lined x xs e =
      let H = head_tree (out-KdlNode m) in
      let K = children_of (option_map document_tree (out-KdlNode n).children) in
      ap (λ (o : Option KdlDocument). node H (with_texts (braces_of g) (filled_block o (lined g ms)))) is
      ∙ ap (node H) e
      ∙ sym (ap (λ (o : Option KdlDocument). node H (one_lined_children l.keep_one_line K (with_texts x (filled_block o xs)))) is)
      ∙ sym (ap (λ (y : Node). one_lined_node l.keep_one_line y (with_braces x (filled m xs))) (node_tree_out n))

  pub enclosed_stays : ((h : Head) → StaysAs (settings l.config) (node h (filled_block (out-KdlNode n).children ms)) (node h (with_texts (braces_of g) (filled_block (out-KdlNode n).children (lined g ms)))))
      → StaysAs (settings l.config) (filled m ms) (enclosed g m ms)
  enclosed_stays f =
      let H = head_tree (out-KdlNode m) in
      subst (λ (o : Option KdlDocument). StaysAs (settings l.config) (node H (filled_block o ms)) (node H (with_texts (braces_of g) (filled_block o (lined g ms))))) (sym is) (f H)

pub own_spaced : (l : Layout) (m n : KdlNode) (level : ℕ) (c : Before) (b : Bool) (g : Option Around) (ms : List Node) → b ≡ is_some (out-KdlNode n).children
    → (keeps_type keeps_name : SpellingRule) → Keeps l.keep_spelling (option_map identifier_tree (out-KdlNode n).ty) keeps_type → KeepsName l.keep_spelling (identifier_tree (out-KdlNode n).name) keeps_name
    → option_map identifier_tree (out-KdlNode m).ty ≡ with_spelling_if keeps_type (option_map identifier_tree (out-KdlNode n).ty)
    → identifier_tree (out-KdlNode m).name ≡ with_spelling keeps_name (identifier_tree (out-KdlNode n).name)
    → AreSpelledEntries (keeping l) (settings l.config) (map entry_tree (out-KdlNode n).entries.items) (map entry_tree (out-KdlNode m).entries.items)
    → (f : Option NodeFormat) → IsSpacedLine l.blank_lines (settings l.config) level b c (or_empty (option_map node_format_tree (out-KdlNode n).format)) f
    → IsTypedFormat (keeps_texts (keeping l) && not l.config.no_comments && is_some (option_map identifier_tree (out-KdlNode n).ty)) (or_empty (option_map node_format_tree (out-KdlNode n).format)) f (option_map node_format_tree (out-KdlNode m).format)
    → (out-KdlNode m).span ≡ (out-KdlNode n).span → (out-KdlNode m).children ≡ (out-KdlNode n).children → BlockSpacing l level (out-KdlNode n).children g ms → IsWellFormedNode (node_data (node_tree n))
    → NodeIsSpaced l level c (node_tree n) (enclosed g m ms) × (IndentsBySpaces (settings l.config) → StaysAs (settings l.config) (filled m ms) (enclosed g m ms))
own_spaced l m n level c b g ms has kt kn keeps_type keeps_name ty name entries f line typed span is w fit =
    let mid = laid_node m n (keeping l) l.compact_empty l.blank_lines (settings l.config) level c b w.between w.nodes has kt kn keeps_type keeps_name ty name entries f line typed span (out-KdlNode n).children is refl w.braces w.spaced w.respelled in
    (((with_braces w.braces (filled m w.nodes), mid, one_lined l m n is g ms w.braces w.nodes w.same), fit), λ ok. enclosed_stays l m n is g ms (w.stays ok))
