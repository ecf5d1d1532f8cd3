-- Nodes and documents that are built keep no form.
use Rattle.std.proofs.Common.{◌≡◌, ℕ, zero, suc, List, [], ◌∷◌, ◌++◌, Option, Some, Vec, Global, map, option_map, set, slice_get, sym, subst}
use Rattle.std.specs.List.{insert}
use Rattle.kdl_entry.specs.Tree.{entry_tree}
use Rattle.kdl_entry.specs.declared.entry.KdlEntry.{KdlEntry}
use Rattle.kdl_grammar.specs.Tree.{DocumentFormat, Node, children_of, listed_nodes, node}
use Rattle.kdl_layout.specs.Formatted.{ChildrenKeepNone, DocumentKeepsNone, EntriesKeepNone, NodeKeepsNone, NodesKeepNone}
use Rattle.kdl.specs.Change.{with_children, with_entries}
use Rattle.kdl.specs.Cleared.{new_document}
use Rattle.kdl.specs.Fields.{block_of, held_entries}
use Rattle.kdl.specs.Layout.{DocumentKeepsNoForm, NodeKeepsNoForm}
use Rattle.kdl.specs.Lookups.{entries_of}
use Rattle.kdl.specs.Nodes.{EndedBefore, IsPut, WithNewlines, trees}
use Rattle.kdl.specs.Tree.{document_tree, node_tree}
use Rattle.kdl.specs.declared.document.KdlDocument.{KdlDocument}
use Rattle.kdl.specs.declared.node.KdlNode.{KdlNode}
use Rattle.kdl.specs.declared.document.KdlDocument.TheViews.{out-KdlNode}
use Rattle.kdl.proofs.Trees.{document_tree_out, node_tree_out, node_tree_roll}
use Rattle.kdl_json.specs.Reading.{EntryKeepsNoForm}

-- ---- a node

-- its entries and its block
abbrev Parts : KdlNode → Type 0
Parts n = EntriesKeepNone (map entry_tree (entries_of n)) × ChildrenKeepNone (children_of (option_map document_tree (block_of n)))

parts : (n : KdlNode) → NodeKeepsNoForm n → Parts n
parts n h = subst NodeKeepsNone (node_tree_out n) h

pub plain_block : (n : KdlNode) (d : KdlDocument) → NodeKeepsNoForm n → DocumentKeepsNoForm d → NodeKeepsNoForm (with_children n (Some d))
plain_block n d h k = subst NodeKeepsNone (sym (node_tree_roll (record (out-KdlNode n) { children = Some d }))) ((parts n h).0, k)

entry_last : (es : List KdlEntry) (e : KdlEntry) → EntriesKeepNone (map entry_tree es) → EntryKeepsNoForm e → EntriesKeepNone (map entry_tree (es ++ e ∷ []))
entry_last [] e h k = (k, tt)
entry_last (f ∷ es) e h k = (h.0, entry_last es e h.1 k)

plain_entries : (n : KdlNode) (v : Vec KdlEntry Global) → NodeKeepsNoForm n → EntriesKeepNone (map entry_tree v.items) → NodeKeepsNoForm (with_entries n v)
plain_entries n v h k = subst NodeKeepsNone (sym (node_tree_roll (record (out-KdlNode n) { entries = v }))) (k, (parts n h).1)

pub plain_pushed : (n m : KdlNode) (e : KdlEntry) → entries_of m ≡ entries_of n ++ e ∷ [] → m ≡ with_entries n (held_entries m) → NodeKeepsNoForm n → EntryKeepsNoForm e → NodeKeepsNoForm m
plain_pushed n m e is rest h k =
    let es : EntriesKeepNone (map entry_tree (entries_of m)) = subst (λ (l : List KdlEntry). EntriesKeepNone (map entry_tree l)) (sym is) (entry_last (entries_of n) e (parts n h).0 k) in
    subst NodeKeepsNoForm (sym rest) (plain_entries n (held_entries m) h es)

-- ---- a document

pub plain_empty : (d : KdlDocument) → document_tree d ≡ new_document → DocumentKeepsNoForm d
plain_empty d e = subst DocumentKeepsNone (sym e) tt

abbrev AreKept : List Node → Type 0
AreKept ns = NodesKeepNone (listed_nodes ns)

kept_at : (ns : List Node) (i : ℕ) (x : Node) → slice_get ns i ≡ Some x → AreKept ns → NodeKeepsNone x
kept_at [] i x e h = cc
kept_at (n ∷ ns) zero x e h =
    let same : n ≡ x = cc in
    subst NodeKeepsNone same h.0
kept_at (n ∷ ns) (suc i) x e h = kept_at ns i x e h.1

kept_set : (ns : List Node) (i : ℕ) (x : Node) → AreKept ns → NodeKeepsNone x → AreKept (set ns i x)
kept_set [] i x h k = tt
kept_set (n ∷ ns) zero x h k = (k, h.1)
kept_set (n ∷ ns) (suc i) x h k = (h.0, kept_set ns i x h.1 k)

kept_insert : (ns : List Node) (i : ℕ) (x : Node) → AreKept ns → NodeKeepsNone x → AreKept (insert ns i x)
kept_insert [] zero x h k = (k, tt)
kept_insert [] (suc i) x h k = (k, tt)
kept_insert (n ∷ ns) zero x h k = (k, h)
kept_insert (n ∷ ns) (suc i) x h k = (h.0, kept_insert ns i x h.1 k)

-- a node that ends with more newlines, and the nodes before a place
ended_node : (k : ℕ) (n m : Node) → WithNewlines k n m → NodeKeepsNone n → NodeKeepsNone m
ended_node zero n m w h = subst NodeKeepsNone (sym w) h
ended_node (suc k) (node a c) m w h = subst NodeKeepsNone (sym w.1) h

ended_before : (i k : ℕ) (o p : Option DocumentFormat) (ns ms : List Node) → EndedBefore i k o ns p ms → AreKept ns → AreKept ms
ended_before zero k o p ns ms e h = subst AreKept (sym e.0) h
ended_before (suc i) k o p ns ms e h = subst AreKept (sym e.1.nodes) (kept_set ns i e.1.new h (ended_node k e.1.old e.1.new e.1.ends (kept_at ns i e.1.old e.1.is h)))

pub plain_put : (i : ℕ) (n : KdlNode) (d e : KdlDocument) → IsPut i (node_tree n) d e → DocumentKeepsNoForm d → NodeKeepsNoForm n → DocumentKeepsNoForm e
plain_put i n d e p h k =
    let own : AreKept (trees d) = subst DocumentKeepsNone (document_tree_out d) h in
    let ns = kept_insert p.ended i p.put (ended_before i p.k _ _ (trees d) p.ended p.before own) (ended_node p.j (node_tree n) p.put p.ends k) in
    subst DocumentKeepsNone (sym (document_tree_out e)) (subst AreKept (sym p.nodes) ns)
