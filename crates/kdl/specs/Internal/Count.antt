-- How many documents and nodes there are in documents and nodes: the measure by which dropping ends.
use Rattle.std.specs.Prelude.{ℕ, ◌+◌, List, [], ◌∷◌, map, Option, None, Some, option_map}
use Rattle.kdl.specs.declared.node.KdlNode.{KdlNode}
use Rattle.kdl.specs.declared.document.KdlDocument.{KdlDocument}
use Rattle.kdl.specs.declared.document.KdlDocument.TheOpen.{KdlDocument-F, KdlNode-F}
use Rattle.kdl.specs.declared.document.KdlDocument.TheFolds.{fold-KdlDocument, fold-KdlNode}

-- the sum of a list
abbrev pub total : List ℕ → ℕ
total [] = 0
total (n ∷ ns) = n + total ns

-- a number, or 0 for none
abbrev pub or_none : Option ℕ → ℕ
or_none None = 0
or_none (Some n) = n

-- the count of a document, given the counts of its nodes
abbrev pub doc_step : KdlDocument-F ℕ ℕ → ℕ
doc_step d = 1 + total d.nodes.items

-- the count of a node, given the count of its children
abbrev pub node_step : KdlNode-F ℕ ℕ → ℕ
node_step n = 1 + or_none n.children

-- how many there are in a document, including itself
abbrev pub count_doc : KdlDocument → ℕ
count_doc = fold-KdlDocument ℕ ℕ doc_step node_step

-- in a node
abbrev pub count_node : KdlNode → ℕ
count_node = fold-KdlNode ℕ ℕ doc_step node_step

-- in nodes
abbrev pub count_nodes : List KdlNode → ℕ
count_nodes ns = total (map count_node ns)

-- in a document, or none
abbrev pub count_option : Option KdlDocument → ℕ
count_option o = or_none (option_map count_doc o)

-- how much is left of nodes, and of open blocks with nodes after each: a node counts once, and so does the end of a block
abbrev pub count_left : {A : Type 0} → (A → List KdlNode) → List KdlNode → List A → ℕ
count_left following rest above = count_nodes rest + total (map (λ o. 1 + count_nodes (following o)) above)
