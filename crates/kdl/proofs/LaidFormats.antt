-- Each node and each entry that is laid in a text has a format, and keeps no form.
use Rattle.kdl.proofs.Common.{◌≡◌, ℕ, zero, suc, Bool, false, List, [], ◌∷◌, Option, Some, None, IsSome, map, option_map, slice_get, refl, subst, none-some, Text, SourceSpan, LaidEntry, laid_entry, Entry, entry_tree, KdlEntry, LaidEntries, no_entry, an_entry, LaidNode, laid_node, LaidChildren, no_block, LaidNodes, no_node, a_node, LaidContent, without_nodes, LaidDocumentAs, with_bom, Node, node, Children, no_children, children, Document, document, Nodes, none, first, nodes_of, entries_of, document_tree, node_tree, nodes_tree, KdlDocument, out-KdlNode, KdlNode, NodeKeepsNone, DocumentKeepsNone}
use Rattle.kdl_grammar.specs.Laid.{a_block, with_nodes, LaidNodeTextAs}
use Rattle.kdl_layout.specs.Kept.{is_kept_format}
use Rattle.kdl_layout.specs.Formatted.{EntriesKeepNone, ChildrenKeepNone, NodesKeepNone}
use Rattle.kdl.proofs.Trees.{document_tree_out, node_tree_out}

abbrev pub EntriesHaveFormats : List Entry → Type 0
EntriesHaveFormats [] = Unit {0}
EntriesHaveFormats (e ∷ es) = IsSome e.format × EntriesHaveFormats es

-- a node has a format, and so has each entry in it, and each node and entry below it
abbrev mutual
  pub NodeHasFormats : Node → Type 0
  NodeHasFormats (node h k) = IsSome h.format × EntriesHaveFormats h.entries × ChildrenHaveFormats k

  pub ChildrenHaveFormats : Children → Type 0
  ChildrenHaveFormats no_children = Unit {0}
  ChildrenHaveFormats (children d) = DocumentHasFormats d

  pub DocumentHasFormats : Document → Type 0
  DocumentHasFormats (document f span ns) = NodesHaveFormats ns

  pub NodesHaveFormats : Nodes → Type 0
  NodesHaveFormats none = Unit {0}
  NodesHaveFormats (first n ns) = NodeHasFormats n × NodesHaveFormats ns

module _ (exact : Bool) (whole : Text) where
  entry_laid : {e : Entry} {s r : Text} → LaidEntry exact whole e s r → (is_kept_format e.format ≡ false) × IsSome e.format
  entry_laid (laid_entry l (Rattle.kdl_entry.specs.Laid.item k y v) x) = (refl, refl)

  entries_laid : {es : List Entry} {s r : Text} → LaidEntries exact whole es s r → EntriesKeepNone es × EntriesHaveFormats es
  entries_laid no_entry = (tt, tt)
  entries_laid (an_entry l ls) = let (a, b) = entry_laid l in let (p, q) = entries_laid ls in ((a, p), (b, q))

  mutual
    node_laid : {leading end trailing s r : Text} {at : SourceSpan} {x : Node} → LaidNode exact whole leading end trailing at x s r → NodeKeepsNone x × NodeHasFormats x
    node_laid (laid_node d i e k) = let (a, b) = entries_laid e in let (p, q) = children_laid k in ((a, p), (refl, b, q))

    children_laid : {k : Children} {before later s r : Text} → LaidChildren exact whole k before later s r → ChildrenKeepNone k × ChildrenHaveFormats k
    children_laid (no_block c) = (tt, tt)
    children_laid (a_block c d l) = content_laid d

    content_laid : {d : Document} {s r : Text} → LaidContent exact whole d s r → DocumentKeepsNone d × DocumentHasFormats d
    content_laid (without_nodes g z) = (tt, tt)
    content_laid (with_nodes (a_node l n e z ns) g y) = let (a, b) = node_laid n in let (p, q) = nodes_laid ns in ((a, p), (b, q))

    nodes_laid : {xs : Nodes} {s r : Text} → LaidNodes exact whole xs s r → NodesKeepNone xs × NodesHaveFormats xs
    nodes_laid no_node = (tt, tt)
    nodes_laid (a_node l n e z ns) = let (a, b) = node_laid n in let (p, q) = nodes_laid ns in ((a, p), (b, q))

bom_laid : {exact : Bool} {whole : Text} {d : Document} {s r : Text} → LaidContent exact whole d s r → DocumentKeepsNone d × DocumentHasFormats d → DocumentKeepsNone (with_bom d) × DocumentHasFormats (with_bom d)
bom_laid (without_nodes g z) h = h
bom_laid (with_nodes ns g z) h = h

document_laid : (exact : Bool) (d : Document) (t : Text) → LaidDocumentAs exact d t → DocumentKeepsNone d × DocumentHasFormats d
document_laid exact d t (LaidDocumentAs.no_bom c) = content_laid exact t c
document_laid exact d t (LaidDocumentAs.after_bom {t = u} c) = bom_laid c (content_laid exact t c)

pub laid_keeps_none : (exact : Bool) (d : Document) (t : Text) → LaidDocumentAs exact d t → DocumentKeepsNone d
laid_keeps_none exact d t l = (document_laid exact d t l).0

pub laid_node_keeps_none : (exact : Bool) (n : Node) (t : Text) → LaidNodeTextAs exact t n → NodeKeepsNone n
laid_node_keeps_none exact n t (LaidNodeTextAs.laid_node_text g l e z s) = (node_laid exact t l).0

pub laid_formats : (exact : Bool) (d : Document) (t : Text) → LaidDocumentAs exact d t → DocumentHasFormats d
laid_formats exact d t l = (document_laid exact d t l).1

-- so has each node of such a document in memory
some_of : {A B : Type 0} (f : A → B) (o : Option A) → IsSome (option_map f o) → IsSome o
some_of f None h = h
some_of f (Some x) h = refl

pub node_has_format : (n : KdlNode) → NodeHasFormats (node_tree n) → IsSome (out-KdlNode n).format
node_has_format n h = some_of _ (out-KdlNode n).format (subst NodeHasFormats (node_tree_out n) h).0

listed_nodes : (ns : List KdlNode) (i : ℕ) (n : KdlNode) → NodesHaveFormats (nodes_tree ns) → slice_get ns i ≡ Some n → NodeHasFormats (node_tree n)
listed_nodes [] i n h e = absurd (none-some _ e)
listed_nodes (m ∷ ns) zero n h e = let s : m ≡ n = cc in subst (λ (x : KdlNode). NodeHasFormats (node_tree x)) s h.0
listed_nodes (m ∷ ns) (suc i) n h e = listed_nodes ns i n h.1 e

pub node_at_has_formats : (d : KdlDocument) (i : ℕ) (n : KdlNode) → DocumentHasFormats (document_tree d) → slice_get (nodes_of d) i ≡ Some n → NodeHasFormats (node_tree n)
node_at_has_formats d i n h e = listed_nodes (nodes_of d) i n (subst DocumentHasFormats (document_tree_out d) h) e

-- and each entry in it
listed_entries : (es : List KdlEntry) (i : ℕ) (e : KdlEntry) → EntriesHaveFormats (map entry_tree es) → slice_get es i ≡ Some e → IsSome (entry_tree e).format
listed_entries [] i e h k = absurd (none-some _ k)
listed_entries (f ∷ es) zero e h k = let s : f ≡ e = cc in subst (λ (x : KdlEntry). IsSome (entry_tree x).format) s h.0
listed_entries (f ∷ es) (suc i) e h k = listed_entries es i e h.1 k

pub entry_at_has_format : (n : KdlNode) (i : ℕ) (e : KdlEntry) → NodeHasFormats (node_tree n) → slice_get (entries_of n) i ≡ Some e → IsSome (entry_tree e).format
entry_at_has_format n i e h k = listed_entries (entries_of n) i e (subst NodeHasFormats (node_tree_out n) h).1 k
