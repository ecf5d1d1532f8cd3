-- What reads back, put together and taken apart.
use Rattle.std.proofs.Common.{ℕ, zero, suc, ◌+◌, ◌<◌, List, [], ◌∷◌, ◌++◌, length, take, drop, arith}
use Rattle.std.specs.List.{All}
use Rattle.kdl_text.specs.Chars.{Text}
use Rattle.kdl_entry.specs.Tree.{Entry}
use Rattle.kdl_grammar.specs.ReadsBack.{Rests, Anything, MayFollow, EntryReads, NodeReads, reads, a_block, NodesRead, no_node, last_node, next_node, BlockReads}
use Rattle.kdl_grammar.specs.Tree.{Head, Node, node, Children, children, Document, Nodes, first, listed_nodes}

-- before fewer rests
pub weaker : {P Q : Rests} {n : Node} → NodeReads P n → ((r : Text) → MayFollow Q r → MayFollow P r) → NodeReads Q n
weaker (reads e head kids end) w = reads e head kids (record { place = λ r p t. end.place r (w r p) t; terminator = λ r s xs p z d. end.terminator r s xs (w r p) z d })

-- a node that ends by itself, before any rests
pub ends_before : (P : Rests) {n : Node} → NodeReads Anything n → NodeReads P n
ends_before P x = weaker x (λ r p. tt)

-- a node with other entries
pub with_entries : {P : Rests} {h : Head} {k : Children} (es : List Entry) → NodeReads P (node h k) → All EntryReads es → NodeReads P (node (record h { entries = es }) k)
with_entries es (reads e head kids end) c = reads e (record { leading = head.leading; name = λ v d. head.name v d; entries = c }) kids end

-- the entries of a node
pub entries_read : {P : Rests} {h : Head} {k : Children} → NodeReads P (node h k) → All EntryReads h.entries
entries_read (reads e head kids end) = head.entries

-- a node with another block
pub with_block : {P : Rests} {h : Head} {d : Document} (x : Document) → NodeReads P (node h (children d)) → BlockReads x → NodeReads P (node h (children x))
with_block x (reads e head (a_block c b) end) y = reads e head (a_block c y) (record { place = λ r p t. end.place r p t; terminator = end.terminator })

-- the block of a node
pub block_reads : {P : Rests} {h : Head} {d : Document} → NodeReads P (node h (children d)) → BlockReads d
block_reads (reads e head (a_block c b) end) = b

-- lists of nodes

-- a node before nodes
pub node_before : {P : Rests} {n : Node} {ns : Nodes} → NodeReads Anything n → NodesRead P ns → NodesRead P (first n ns)
node_before {P = P} x no_node = last_node (ends_before P x)
node_before x (last_node y) = next_node x (last_node y)
node_before x (next_node y ys) = next_node x (next_node y ys)

-- the nodes after the first one
pub nodes_after : {P : Rests} {n : Node} {ns : Nodes} → NodesRead P (first n ns) → NodesRead P ns
nodes_after (last_node x) = no_node
nodes_after (next_node x xs) = xs

-- nodes that end by themselves, and nodes
pub nodes_append : {P : Rests} (ns ms : List Node) → NodesRead Anything (listed_nodes ns) → NodesRead P (listed_nodes ms) → NodesRead P (listed_nodes (ns ++ ms))
nodes_append [] ms x y = y
nodes_append (n ∷ []) ms (last_node x) y = node_before x y
nodes_append (n ∷ m ∷ ns) ms (next_node x xs) y = next_node x (nodes_append (m ∷ ns) ms xs y)

-- the last nodes
pub nodes_drop : {P : Rests} (k : ℕ) (ns : List Node) → NodesRead P (listed_nodes ns) → NodesRead P (listed_nodes (drop k ns))
nodes_drop zero ns x = x
nodes_drop (suc k) [] x = x
nodes_drop (suc k) (n ∷ ns) x = nodes_drop k ns (nodes_after x)

-- the first nodes, before another
pub nodes_take : {P : Rests} (k : ℕ) (ns : List Node) → k < length ns → NodesRead P (listed_nodes ns) → NodesRead Anything (listed_nodes (take k ns))
nodes_take zero ns h x = no_node
nodes_take (suc k) [] h x = no_node
nodes_take (suc k) (n ∷ []) h x = absurd (omega arith)
nodes_take (suc k) (n ∷ m ∷ ns) h (next_node x xs) = node_before x (nodes_take k (m ∷ ns) (omega arith) xs)
