-- The data of nodes and documents that are built.
use Rattle.std.proofs.Common.{◌≡◌, List, [], ◌∷◌, ◌++◌, length, map, Some, Vec, Global, refl, ap, ◌∙◌, sym}
use Rattle.std.proofs.lemmas.List.{map-append}
use Rattle.kdl_entry.specs.Data.{Entry}
use Rattle.kdl_entry.specs.Tree.{entry_data, entry_tree}
use Rattle.kdl_entry.specs.declared.entry.KdlEntry.{KdlEntry}
use Rattle.kdl_grammar.specs.Data.{Node, node, Nodes}
use Rattle.kdl_grammar.specs.Tree.{document_data, node_data, nodes_data}
use Rattle.kdl.specs.Change.{with_children, with_entries}
use Rattle.kdl.specs.DocumentLookups.{nodes_of}
use Rattle.kdl.specs.Fields.{held_entries}
use Rattle.kdl.specs.Lookups.{entries_of}
use Rattle.kdl.specs.Nodes.{said_with}
use Rattle.kdl.specs.Said.{said_nodes}
use Rattle.kdl.specs.Tree.{document_says, node_says, nodes_tree}
use Rattle.kdl.specs.declared.node.KdlNode.{KdlNode}
use Rattle.kdl.specs.declared.document.KdlDocument.{KdlDocument}
use Rattle.kdl.specs.declared.document.KdlDocument.TheViews.{out-KdlNode}
use Rattle.kdl.proofs.Trees.{document_tree_out, node_tree_out, node_tree_roll}
use Rattle.kdl_json.specs.Heads.{with_block, with_more}

-- a node with a block
pub says_block : (n : KdlNode) (d : KdlDocument) → node_says (with_children n (Some d)) ≡ with_block (node_says n) (document_says d)
says_block n d =
    ap node_data (node_tree_roll (record (out-KdlNode n) { children = Some d }))
    ∙ ap (λ (m : Node). with_block m (document_says d)) (sym (ap node_data (node_tree_out n)))

-- a node with one more entry
entries_said : (es fs : List KdlEntry) (e : KdlEntry) → fs ≡ es ++ e ∷ [] → map entry_data (map entry_tree fs) ≡ map entry_data (map entry_tree es) ++ entry_data (entry_tree e) ∷ []
entries_said es fs e h =
    ap (λ (l : List KdlEntry). map entry_data (map entry_tree l)) h
    ∙ ap (map entry_data) (map-append entry_tree es (e ∷ []))
    ∙ map-append entry_data (map entry_tree es) (entry_tree e ∷ [])

abbrev reentered : Node → List Entry → Node
reentered (node ty name es k) fs = node ty name fs k

with_said : (n : KdlNode) (fs : List Entry) → reentered (node_says n) (map entry_data (map entry_tree (entries_of n)) ++ fs) ≡ with_more (node_says n) fs
with_said n fs =
    ap (λ (m : Node). reentered m (map entry_data (map entry_tree (entries_of n)) ++ fs)) (ap node_data (node_tree_out n))
    ∙ ap (λ (m : Node). with_more m fs) (sym (ap node_data (node_tree_out n)))

says_entries : (n : KdlNode) (v : Vec KdlEntry Global) → node_says (with_entries n v) ≡ reentered (node_says n) (map entry_data (map entry_tree v.items))
says_entries n v =
    ap node_data (node_tree_roll (record (out-KdlNode n) { entries = v }))
    ∙ ap (λ (m : Node). reentered m (map entry_data (map entry_tree v.items))) (sym (ap node_data (node_tree_out n)))

pub says_pushed : (n m : KdlNode) (e : KdlEntry) → entries_of m ≡ entries_of n ++ e ∷ [] → m ≡ with_entries n (held_entries m) → node_says m ≡ with_more (node_says n) (entry_data (entry_tree e) ∷ [])
says_pushed n m e h r =
    ap node_says r ∙ says_entries n (held_entries m)
    ∙ ap (reentered (node_says n)) (entries_said (entries_of n) (entries_of m) e h)
    ∙ with_said n (entry_data (entry_tree e) ∷ [])

-- a document with one more node
abbrev lasts : List KdlNode → Node → List Node
lasts ns x = said_nodes (said_with (length ns) x (nodes_data (nodes_tree ns)))

said_last : (ns : List KdlNode) (x : Node) → lasts ns x ≡ said_nodes (nodes_data (nodes_tree ns)) ++ x ∷ []
said_last [] x = refl
said_last (n ∷ ns) x = ap (λ (l : List Node). node_says n ∷ l) (said_last ns x)

pub says_last : (d e : KdlDocument) (x : Node) → document_says e ≡ said_with (length (nodes_of d)) x (document_says d) → said_nodes (document_says e) ≡ said_nodes (document_says d) ++ x ∷ []
says_last d e x h =
    let own : document_says d ≡ nodes_data (nodes_tree (nodes_of d)) = ap document_data (document_tree_out d) in
    ap said_nodes (h ∙ ap (said_with (length (nodes_of d)) x) own) ∙ said_last (nodes_of d) x ∙ ap (λ (z : Nodes). said_nodes z ++ x ∷ []) (sym own)
