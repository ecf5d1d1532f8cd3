-- Nodes and documents whose parts were laid out.
use Rattle.kdl.proofs.Common.{◌≡◌, Keeping, keeping, keeps_texts, ℕ, suc, Bool, List, [], ◌∷◌, length, map, Option, None, Some, option_map, refl, sym, ap, ◌∙◌, subst, Vec, Global, arith, is_some, not, ◌&&◌, slice_get, ◌-◌, text_scalars, Identifier, identifier_tree, entry_tree, entry_data, unspelled, SourceSpan, NodeFormat, document_data, Head, Node, node, Nodes, listed_nodes, Document, document, children_of, first, node_data, nodes_data, children_data, DocumentFormat, Settings, settings, Keeps, KeepsName, with_spelling, with_spelling_if, IsLaidDocument, one_lined_node, one_lined_nodes, IsTypedFormat, IsRespelledIf, AreSpelledEntries, IsSpelledNode, IsSpacedLine, IsSpacedContent, IsSpacedChildren, Before, Layout, KdlNodeFormat, or_empty, or_empty_document, bare_node, bare_nodes, IsWellFormedNode, has_block, SpellingRule, scalars, node_format_tree, node_texts, document_format_tree, child_nodes, nodes_in, NodesAreSpaced, PassesAt, filled_block, filled, with_braces, with_texts, node_tree, document_tree, nodes_tree, KdlNode, KdlDocument, out-KdlNode, out-KdlDocument}
use Rattle.kdl_layout.specs.Respelled.{IsRespelled, AreRespelledChildren, AreRespelledNodes}
use Rattle.kdl_layout.specs.Spaced.{AreSpacedNodes, PassesFormat, PassesNodes}
use Rattle.kdl_layout.specs.Formatted.{bare_document}
use Rattle.kdl_layout.specs.WellFormed.{AreWellFormed, AreWellFormedChildren, AreWellFormedEntries}
use Rattle.kdl.proofs.LayingOut.BlockSteps.{bare_alike}
use Rattle.kdl.proofs.Trees.{node_tree_out, document_tree_out}

-- nodes that are laid out: each on lines of its own, then with their spellings, and then with blocks on one line
pub record NodesLaid (l : Layout) (level : ℕ) (b : Before) (ns ms : List Node) : Type 0 where
  pub between : List Node
  pub nodes : List Node
  pub spaced : AreSpacedNodes l.compact_empty l.blank_lines (settings l.config) level b (listed_nodes ns) (listed_nodes between)
  pub respelled : AreRespelledNodes (keeping l) (settings l.config) (listed_nodes ns) (listed_nodes between) (listed_nodes nodes)
  pub same : listed_nodes ms ≡ one_lined_nodes l.keep_one_line (listed_nodes ns) (listed_nodes nodes)

pub nodes_laid : (l : Layout) (level : ℕ) (b : Before) (ns ms : List Node) → NodesAreSpaced l level b ns ms → NodesLaid l level b ns ms
nodes_laid l level b [] [] h = record { between = []; nodes = []; spaced = tt; respelled = tt; same = refl }
nodes_laid l level b [] (m ∷ ms) h = absurd h
nodes_laid l level b (n ∷ ns) [] h = absurd h
nodes_laid l level b (n ∷ ns) (m ∷ ms) (b', ((x, (y, f, r), e), w), p, h) =
    let z = nodes_laid l level b' ns ms h in
    record {
      between = y ∷ z.between;
      nodes = x ∷ z.nodes;
      spaced = (b', f, p, z.spaced);
      respelled = (r, z.respelled);
      same = ap (λ (q : Node). first q (listed_nodes ms)) e ∙ ap (first (one_lined_node l.keep_one_line n x)) z.same;
    }

pub nodes_fit : (l : Layout) (level : ℕ) (b : Before) (ns ms : List Node) → NodesAreSpaced l level b ns ms → AreWellFormed (nodes_data (listed_nodes ns))
nodes_fit l level b [] ms h = tt
nodes_fit l level b (n ∷ ns) [] h = absurd h
nodes_fit l level b (n ∷ ns) (m ∷ ms) h = (h.1.1, nodes_fit l level h.0 ns ms h.3)

-- what comes before the text after the nodes
pub last_passes : (l : Layout) (ns : List KdlNode) (n : KdlNode) (e b : Before) → slice_get ns (length ns - 1) ≡ Some n → PassesAt l (node_tree n) e → PassesNodes l.blank_lines (settings l.config) b (nodes_tree ns) e
last_passes l [] n e b h p = absurd (cc)
last_passes l (m ∷ []) n e b h p = let k : m ≡ n = cc in rw k p
last_passes l (m ∷ o ∷ ns) n e b h p = let k : length (m ∷ o ∷ ns) - 1 ≡ suc (length (o ∷ ns) - 1) = omega arith in last_passes l (o ∷ ns) n e b (rw k at h) p

bare_content : (f f' : Option DocumentFormat) (at at' : SourceSpan) (ns ns' : Nodes) → at ≡ at' → bare_nodes ns ≡ bare_nodes ns' → bare_document (document f at ns) ≡ bare_document (document f' at' ns')
bare_content f f' at at' ns ns' a b = rw (a, b) refl

-- whether there is a block
pub block_there : (o : Option KdlDocument) (b : Bool) → b ≡ is_some o → b ≡ has_block (children_of (option_map document_tree o))
block_there None b e = e
block_there (Some d) b e = e

-- a block with other nodes, and with the spellings of these put back
pub respelled_block : (keep : Keeping) (s : Settings) (o : Option KdlDocument) (x : Option DocumentFormat) (xs ms : List Node) → AreRespelledNodes keep s (nodes_tree (nodes_in o)) (listed_nodes xs) (listed_nodes ms)
    → AreRespelledChildren keep s (children_of (option_map document_tree o)) (with_texts x (filled_block o xs)) (with_texts x (filled_block o ms))
respelled_block keep s None x xs ms r = tt
respelled_block keep s (Some d) x xs ms r = rw (document_tree_out d) (refl, refl, r)

-- a node of which the parts are known
module _ (m n : KdlNode) where
  pub laid_node : (keep : Keeping) (compact : Bool) (number : ℕ) (s : Settings) (level : ℕ) (c : Before) (b : Bool) (xs ms : List Node) → b ≡ is_some (out-KdlNode n).children
      → (keeps_type keeps_name : SpellingRule) → Keeps keep.spelling (option_map identifier_tree (out-KdlNode n).ty) keeps_type → KeepsName keep.spelling (identifier_tree (out-KdlNode n).name) keeps_name
      → option_map identifier_tree (out-KdlNode m).ty ≡ with_spelling_if keeps_type (option_map identifier_tree (out-KdlNode n).ty)
      → identifier_tree (out-KdlNode m).name ≡ with_spelling keeps_name (identifier_tree (out-KdlNode n).name)
      → AreSpelledEntries keep s (map entry_tree (out-KdlNode n).entries.items) (map entry_tree (out-KdlNode m).entries.items)
      → (f : Option NodeFormat) → IsSpacedLine number s level b c (or_empty (option_map node_format_tree (out-KdlNode n).format)) f
      → IsTypedFormat (keeps_texts keep && not s.no_comments && is_some (option_map identifier_tree (out-KdlNode n).ty)) (or_empty (option_map node_format_tree (out-KdlNode n).format)) f (option_map node_format_tree (out-KdlNode m).format)
      → (out-KdlNode m).span ≡ (out-KdlNode n).span
      → (o : Option KdlDocument) → (out-KdlNode m).children ≡ o → o ≡ (out-KdlNode n).children
      → (x : Option DocumentFormat) → IsSpacedChildren compact number s level (children_of (option_map document_tree (out-KdlNode n).children)) (with_texts x (filled_block o xs))
      → AreRespelledNodes keep s (nodes_tree (child_nodes n)) (listed_nodes xs) (listed_nodes ms)
      → IsSpelledNode keep compact number s level c (node_tree n) (with_braces x (filled m ms))
  laid_node keep compact number s level c b xs ms e kt kn keeps_type keeps_name ty' name' (es, entries, spellings) f line typed span o is was x k r =
      let N = out-KdlNode n in
      let o' = option_map identifier_tree N.ty in
      let i = identifier_tree N.name in
      let ty : IsRespelledIf keep.spelling o' (option_map unspelled o') (option_map identifier_tree (out-KdlNode m).ty) = subst (λ (z : Option Identifier). IsRespelledIf keep.spelling o' (option_map unspelled o') z) (sym ty') keeps_type in
      let name : IsRespelled keep.spelling i (unspelled i) (identifier_tree (out-KdlNode m).name) = subst (λ (z : Identifier). IsRespelled keep.spelling i (unspelled i) z) (sym name') keeps_name in
      let own = subst (λ (x : Bool). IsSpacedLine number s level x c (or_empty (option_map node_format_tree N.format)) f) (block_there N.children b e) line in
      let mid : Head = record { ty = option_map unspelled (option_map identifier_tree N.ty); name = unspelled (identifier_tree N.name); entries = es; format = f; span = N.span } in
      let r' : AreRespelledNodes keep s (nodes_tree (nodes_in o)) (listed_nodes xs) (listed_nodes ms) = subst (λ (z : Option KdlDocument). AreRespelledNodes keep s (nodes_tree (nodes_in z)) (listed_nodes xs) (listed_nodes ms)) (sym was) r in
      let block : AreRespelledChildren keep s (children_of (option_map document_tree N.children)) (with_texts x (filled_block o xs)) (with_texts x (filled_block (out-KdlNode m).children ms)) =
      subst (λ (z : Option KdlDocument). AreRespelledChildren keep s (children_of (option_map document_tree N.children)) (with_texts x (filled_block o xs)) (with_texts x (filled_block z ms))) (sym is)
      (subst (λ (z : Option KdlDocument). AreRespelledChildren keep s (children_of (option_map document_tree z)) (with_texts x (filled_block o xs)) (with_texts x (filled_block o ms))) was (respelled_block keep s o x xs ms r')) in
      rw (node_tree_out n) (
        node mid (with_texts x (filled_block o xs)),
        (record { ty = refl; name = refl; entries = entries; format = own; span = refl }, k),
        (record { ty = ty; name = name; entries = spellings; format = typed; span = span }, block),
      )

-- and a document
module _ (m d : KdlDocument) (span : (out-KdlDocument m).span ≡ (out-KdlDocument d).span) where
  module _ (v : Vec KdlNode Global) (holds : (out-KdlDocument m).nodes ≡ v) where
    pub same_content : map bare_node (map node_tree v.items) ≡ map bare_node (map node_tree (out-KdlDocument d).nodes.items) → bare_document (document_tree m) ≡ bare_document (document_tree d)
    same_content k =
        let k' : bare_nodes (nodes_tree (out-KdlDocument m).nodes.items) ≡ bare_nodes (nodes_tree (out-KdlDocument d).nodes.items) =
        rw holds (bare_alike (map node_tree v.items) (map node_tree (out-KdlDocument d).nodes.items) k) in
        ap bare_document (document_tree_out m) ∙ bare_content (option_map document_format_tree (out-KdlDocument m).format) (option_map document_format_tree (out-KdlDocument d).format) _ _ _ _ span k' ∙ sym (ap bare_document (document_tree_out d))

    pub laid_content : (l : Layout) (level : ℕ) (b : Before) (f : Option DocumentFormat) → option_map document_format_tree (out-KdlDocument m).format ≡ f
        → IsSpacedContent l.compact_empty l.blank_lines (settings l.config) level (nodes_tree (out-KdlDocument d).nodes.items) (or_empty_document (option_map document_format_tree (out-KdlDocument d).format)) b f
        → NodesAreSpaced l level b (map node_tree (out-KdlDocument d).nodes.items) (map node_tree v.items)
        → IsLaidDocument (keeping l) l.keep_one_line l.compact_empty l.blank_lines (settings l.config) level (document_tree d) (document_tree m)
    laid_content l level b f g c k =
        let M = out-KdlDocument m in
        let D = out-KdlDocument d in
        let w = nodes_laid l level b (map node_tree D.nodes.items) (map node_tree v.items) k in
        let e = document (option_map document_format_tree M.format) M.span (listed_nodes w.nodes) in
        rw (document_tree_out d, document_tree_out m) (
          e,
          (document f D.span (listed_nodes w.between), (b, c, refl, w.spaced), (g, span, w.respelled)),
          ap (document (option_map document_format_tree M.format) M.span) (ap (λ (x : Vec KdlNode Global). nodes_tree x.items) holds ∙ w.same),
        )

pub fitting_document : (d : KdlDocument) → AreWellFormed (nodes_data (nodes_tree (out-KdlDocument d).nodes.items)) → AreWellFormed (document_data (document_tree d))
fitting_document d w = subst (λ (x : Document). AreWellFormed (document_data x)) (sym (document_tree_out d)) w

fitting_block : (o : Option KdlDocument) → AreWellFormed (nodes_data (nodes_tree (nodes_in o))) → AreWellFormedChildren (children_data (children_of (option_map document_tree o)))
fitting_block None w = w
fitting_block (Some d) w = fitting_document d w

-- what comes before the thing after a node
pub own_passes : (l : Layout) (n : KdlNode) (e : Before) (f : Option KdlNodeFormat) → f ≡ (out-KdlNode n).format → PassesFormat l.blank_lines (settings l.config) (or_empty (node_texts f)) e → PassesAt l (node_tree n) e
own_passes l n e f h p = rw (node_tree_out n) (rw h at p)

pub fitting_node : (n : KdlNode) → AreWellFormedEntries (map entry_data (map entry_tree (out-KdlNode n).entries.items)) → AreWellFormed (nodes_data (nodes_tree (child_nodes n))) → IsWellFormedNode (node_data (node_tree n))
fitting_node n e k =
    subst (λ (x : Node). IsWellFormedNode (node_data x)) (sym (node_tree_out n))
    (scalars (out-KdlNode n).ty, text_scalars (out-KdlNode n).name.value, e, fitting_block (out-KdlNode n).children k)
