-- How many parts a query has, and how many nodes and blocks a document has.
use Rattle.std.specs.List.{sum_by}
use Rattle.std.specs.Prelude.{ℕ, suc, ◌+◌}
use Rattle.kdl_grammar.specs.Data.{Node, node, Children, no_children, children, Nodes, none, first}
use Rattle.kdl_query.specs.Data.{Query, Selector, any_node, start, then, top}
use Rattle.kdl_query.specs.declared.tree.Combinator.TheVariants.{Child}

-- the parts of a selector: `top()` or a test of a node, and one for each step
abbrev pub parts_in : Selector → ℕ
parts_in top = 1
parts_in (start t) = 1
parts_in (then s c t) = suc (parts_in s)

-- of a whole selector: `top()` alone has a step to the top-level nodes
abbrev pub selector_count : Selector → ℕ
selector_count top = parts_in (then top Child any_node)
selector_count s = parts_in s

-- of all selectors
abbrev pub part_count : Query → ℕ
part_count q = sum_by selector_count q

abbrev mutual
  -- the nodes of a document, at every depth
  pub node_count : Nodes → ℕ
  node_count none = 0
  node_count (first n x) = suc (count_inside n + node_count x)

  pub count_inside : Node → ℕ
  count_inside (node t s es k) = count_below k

  pub count_below : Children → ℕ
  count_below no_children = 0
  count_below (children x) = node_count x

abbrev mutual
  -- the blocks of a document, at every depth; its own nodes are one too
  pub block_count : Nodes → ℕ
  block_count none = 1
  block_count (first n x) = blocks_inside n + block_count x

  pub blocks_inside : Node → ℕ
  blocks_inside (node t s es k) = blocks_below k

  pub blocks_below : Children → ℕ
  blocks_below no_children = 0
  blocks_below (children x) = block_count x
