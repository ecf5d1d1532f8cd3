-- What a document says once its first node of a name gets an entry or a child.
use Rattle.std.proofs.Common.{◌≡◌, ℕ, List, [], ◌∷◌, ◌++◌, length, map, Option, Some, None, option_map, unwrap_or, refl, ap, sym, ◌∙◌}
use Rattle.std.proofs.lemmas.List.{map-append}
use Rattle.std.proofs.lemmas.List.Elements.{filter-append}
use Rattle.std.specs.List.{filter}
use Rattle.std.specs.Str.{IsUtf8, chars}
use Rattle.kdl.specs.Change.{with_format}
use Rattle.kdl.specs.Iterators.{nodes_in}
use Rattle.kdl.specs.Nodes.{ChildPutIn}
use Rattle.kdl.specs.Said.{has_no_key}
use Rattle.kdl.specs.Words.{ChildPut, Document, Entry, EntryData, Identifier, NodeData, Nodes, Text, Value, block_of, child_nodes, document_data, document_says, entries_of, entry_data, entry_tree, held_entries, node_named, node_says, plain_entry, plain_identifier, said_args, said_arguments, said_child_nodes, said_entries, said_node, said_nodes, said_with, with_entries, with_node_named}
use Rattle.kdl.specs.declared.KdlEntry.{KdlEntry}
use Rattle.kdl.specs.declared.document.KdlDocument.{KdlDocument}
use Rattle.kdl.specs.declared.document.KdlDocument.TheViews.{out-KdlNode, out-roll-KdlNode}
use Rattle.kdl.specs.declared.node.KdlNode.{KdlNode}
use Rattle.kdl.proofs.Finding.NodesFound.{node_found}
use Rattle.kdl.proofs.Finding.SaidLookups.{children_said, got_entries, node_said}
use Rattle.kdl.proofs.Putting.Puts.{put_says}
use Rattle.kdl_laws.proofs.PushedNodes.{put_last}

-- the node that a name finds, exchanged for another one of its name
record Exchanged (s : List ℕ) (d : KdlDocument) (n m : KdlNode) : Type 0 where
  was : said_node (chars s) (document_says d) ≡ Some (node_says n)
  is : said_node (chars s) (document_says (with_node_named s d m)) ≡ Some (node_says m)

exchanged : (s : List ℕ) (d : KdlDocument) (n m : KdlNode) → IsUtf8 s → Some n ≡ node_named s d → (out-KdlNode m).name ≡ (out-KdlNode n).name → Exchanged s d n m
exchanged s d n m u h k = record {
  was = sym (node_said s d u) ∙ ap (option_map node_says) (sym h);
  is = sym (node_said s (with_node_named s d m) u) ∙ ap (option_map node_says) (node_found s n m d (sym h) k);
}

-- an entry is pushed
abbrev says : KdlEntry → EntryData
says e = entry_data (entry_tree e)

pub pushed_said : (n m : KdlNode) (e : KdlEntry) (x : Entry) → entries_of m ≡ entries_of n ++ (e ∷ []) → entry_tree e ≡ x → said_entries (node_says m) ≡ said_entries (node_says n) ++ (entry_data x ∷ [])
pushed_said n m e x h k =
    sym (got_entries m (entries_of m) refl) ∙ ap (map says) h ∙ map-append says (entries_of n) (e ∷ [])
    ∙ ap (λ l. l ++ (says e ∷ [])) (got_entries n (entries_of n) refl) ∙ ap (λ y. said_entries (node_says n) ++ (entry_data y ∷ [])) k

-- what an entry says that was made and got a key and a type
pub typed : (e f g : Entry) (i j : Identifier) (a b : Text) (v : Value) → e ≡ plain_entry None v → f ≡ record e { name = Some i } → g ≡ record f { ty = Some j }
    → i ≡ plain_identifier a → j ≡ plain_identifier b → entry_data g ≡ record { key = Some a; ty = Some b; value = v }
typed e f g i j a b v p q r s t =
    ap entry_data (r ∙ ap (λ (z : Entry). record z { ty = Some j }) (q ∙ ap (λ (z : Entry). record z { name = Some i }) p))
    ∙ ap (λ (z : Identifier). entry_data (record (plain_entry (Some z) v) { ty = Some j })) s
    ∙ ap (λ (z : Identifier). entry_data (record (plain_entry (Some (plain_identifier a)) v) { ty = Some z })) t

argument_said_last : (a b : NodeData) (v : Value) → said_entries b ≡ said_entries a ++ (entry_data (plain_entry None v) ∷ []) → said_arguments b ≡ said_arguments a ++ (v ∷ [])
argument_said_last a b v h =
    let x = entry_data (plain_entry None v) in
    ap (λ l. map (λ (e : EntryData). e.value) (filter has_no_key l)) h
    ∙ ap (map (λ (e : EntryData). e.value)) (filter-append has_no_key (said_entries a) (x ∷ []))
    ∙ map-append (λ (e : EntryData). e.value) (filter has_no_key (said_entries a)) (x ∷ [])

pub pushed_args : (s : List ℕ) (d : KdlDocument) (n m : KdlNode) (e : KdlEntry) (v : Value) → IsUtf8 s → Some n ≡ node_named s d → entries_of m ≡ entries_of n ++ (e ∷ [])
    → m ≡ with_entries n (held_entries m) → entry_tree e ≡ plain_entry None v → said_args (chars s) (document_says (with_node_named s d m)) ≡ said_args (chars s) (document_says d) ++ (v ∷ [])
pushed_args s d n m e v u h items rest t =
    let fields = ap out-KdlNode rest ∙ out-roll-KdlNode (record (out-KdlNode n) { entries = held_entries m }) in
    let x = exchanged s d n m u h (ap (λ z. z.name) fields) in
    let args = λ (o : Option NodeData). unwrap_or (option_map said_arguments o) [] in
    ap args x.is ∙ argument_said_last (node_says n) (node_says m) v (pushed_said n m e (plain_entry None v) items t) ∙ ap (λ l. l ++ (v ∷ [])) (sym (ap args x.was))

-- a child is put after the others
record Child (x : NodeData) (n m : KdlNode) : Type 0 where
  name : (out-KdlNode m).name ≡ (out-KdlNode n).name
  children : said_child_nodes (node_says m) ≡ said_child_nodes (node_says n) ++ (x ∷ [])

-- the nodes that a node says inside, by its block
inside : (n : KdlNode) (o : Option KdlDocument) → (out-KdlNode n).children ≡ o → said_child_nodes (node_says n) ≡ unwrap_or (option_map said_nodes (option_map document_says o)) []
inside n o h = ap (λ (k : Option Nodes). unwrap_or (option_map said_nodes k) []) (sym (children_said n) ∙ ap (option_map document_says) h)

child_put : (i : ℕ) (x n m : KdlNode) → i ≡ length (child_nodes n) → ChildPut i x n m → Child (node_says x) n m
child_put i x n m at p = go (block_of n) refl p
  where
    go : (o : Option KdlDocument) → block_of n ≡ o → ChildPutIn o i x n m → Child (node_says x) n m
    go None k (d, e, g, a, b, c, h) =
        let f = with_format n g in
        let fields = ap out-KdlNode h ∙ out-roll-KdlNode (record (out-KdlNode f) { children = Some e }) in
        let own = out-roll-KdlNode (record (out-KdlNode n) { format = g }) in
        let one = put_says 0 x d e b ∙ ap (λ (t : Document). said_with 0 (node_says x) (document_data t)) a in
        record {
          name = ap (λ z. z.name) fields ∙ ap (λ z. z.name) own;
          children = inside m (Some e) (ap (λ z. z.children) fields) ∙ ap said_nodes one ∙ ap (λ l. l ++ (node_says x ∷ [])) (sym (inside n None k));
        }
    go (Some d) k (e, p, h) =
        let fields = ap out-KdlNode h ∙ out-roll-KdlNode (record (out-KdlNode n) { children = Some e }) in
        let last = at ∙ ap (λ o. length (nodes_in o)) k in
        let more = put_last d e (node_says x) (put_says i x d e p ∙ ap (λ (j : ℕ). said_with j (node_says x) (document_says d)) last) in
        record {
          name = ap (λ z. z.name) fields;
          children = inside m (Some e) (ap (λ z. z.children) fields) ∙ more ∙ ap (λ l. l ++ (node_says x ∷ [])) (sym (inside n (Some d) k));
        }

pub child_said : (s : List ℕ) (d : KdlDocument) (i : ℕ) (x n m : KdlNode) → IsUtf8 s → Some n ≡ node_named s d → i ≡ length (child_nodes n) → ChildPut i x n m
    → option_map said_child_nodes (said_node (chars s) (document_says (with_node_named s d m))) ≡ option_map (λ k. said_child_nodes k ++ (node_says x ∷ [])) (said_node (chars s) (document_says d))
child_said s d i x n m u h at p =
    let c = child_put i x n m at p in
    let y = exchanged s d n m u h c.name in
    ap (option_map said_child_nodes) y.is ∙ ap Some c.children ∙ sym (ap (option_map (λ (k : NodeData). said_child_nodes k ++ (node_says x ∷ []))) y.was)
