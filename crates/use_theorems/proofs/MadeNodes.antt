-- What nodes say that were made.
use Rattle.std.proofs.Common.{◌≡◌, List, [], ◌∷◌, map, option_map, Option, None, Result, Ok, Err, IfOk, String, Global, refl, ap, ◌∙◌}
use Rattle.std.specs.List.{count_by, filter, last_or}
use Rattle.kdl.specs.Said.{has_key}
use Rattle.kdl.specs.Words.{EntryData, Identifier, IsDocument, Node, NodeData, Nodes, Text, Value, argument_count, entries_of, entry_data, entry_tree, is_argument, new_node, node_data, node_tree, said_entries, said_name, said_nodes, said_property, text_of}
use Rattle.kdl.specs.declared.node.KdlNode.{KdlNode}
use Rattle.kdl.proofs.Finding.SaidLookups.{got_entries}

none_mapped : {A B : Type 0} (f : A → B) (xs : List A) → map f xs ≡ [] → xs ≡ []
none_mapped f [] h = refl
none_mapped f (x ∷ xs) h = absurd (cc)

-- a new node has no arguments
pub new_count : (n : KdlNode) (i : Identifier) → node_tree n ≡ new_node i → argument_count n ≡ 0
new_count n i h =
    let none : entries_of n ≡ [] = none_mapped (λ e. entry_data (entry_tree e)) (entries_of n) (got_entries n (entries_of n) refl ∙ ap (λ (t : Node). said_entries (node_data t)) h) in
    ap (count_by is_argument) none

-- nodes that say the same entries say the same properties
pub same_property : (s : Text) (a b : NodeData) → said_entries b ≡ said_entries a → said_property s b ≡ said_property s a
same_property s a b h = ap (λ (es : List EntryData). option_map (λ (e : EntryData). e.value) (last_or None (filter (has_key s) es))) h

two : {A : Type 0} (a b c d : A) → a ≡ c → b ≡ d → a ∷ b ∷ [] ≡ c ∷ d ∷ []
two a b c d p q = cc

-- a text that says two nodes says their names and their properties
pub two_said : {E : Type 0} (r : Result (String Global) E) (a b : NodeData) (one other port : Text) (v w : Option Value)
    → IfOk r (λ out. (x : Nodes) × IsDocument (text_of out) x × (said_nodes x ≡ a ∷ b ∷ []))
    → said_name a ≡ one → said_name b ≡ other → said_property port a ≡ v → said_property port b ≡ w
    → IfOk r (λ out. (x : Nodes) × IsDocument (text_of out) x × (map said_name (said_nodes x) ≡ one ∷ other ∷ [])
    × (map (said_property port) (said_nodes x) ≡ v ∷ w ∷ []))
two_said (Ok out) a b one other port v w (x, d, e) p q s t =
    (x, d, ap (map said_name) e ∙ two _ _ _ _ p q, ap (map (said_property port)) e ∙ two _ _ _ _ s t)
two_said (Err z) a b one other port v w h p q s t = tt
