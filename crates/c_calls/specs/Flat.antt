-- The data in the rows of a document, in order.
use Rattle.std.specs.Prelude.{◌≡◌, ◌++◌, ◌≤◌, ℕ, List, [], ◌∷◌, length, map, take}
use Rattle.kdl.specs.Words.{EntryData, NodeData, Nodes, said_entries}
use Rattle.kdl_grammar.specs.Data as data'
use Rattle.c_calls.specs.Says.{SaysEntry, SaysNode}
use Rattle.c_calls.specs.declared.row.KdlRow.{KdlRow}

-- a node, with its type, its name and whether it has a block; an entry; the end of a block
pub data Item : Type 0 where
  node_item : NodeData → Item
  entry_item : EntryData → Item
  end_item : Item

-- a node and its entries
abbrev pub head_items : NodeData → List Item
head_items n = node_item n ∷ map entry_item (said_entries n)

-- a node, its entries and, if it has a block, the items of its children and an end
abbrev mutual
  pub node_items : NodeData → List Item
  node_items (data'.node ty name es k) = (node_item (data'.node ty name es k) ∷ map entry_item es) ++ block_items k

  pub block_items : data'.Children → List Item
  block_items data'.no_children = []
  block_items (data'.children x) = flattened x ++ end_item ∷ []

  pub flattened : Nodes → List Item
  flattened data'.none = []
  flattened (data'.first n x) = node_items n ++ flattened x

-- the items of nodes in a list
abbrev pub listed : List NodeData → List Item
listed [] = []
listed (n ∷ ns) = node_items n ++ listed ns

-- the row has the data of the item
abbrev pub SaysItem : List ℕ → KdlRow → Item → Type 0
SaysItem strings r (node_item n) = SaysNode strings r n
SaysItem strings r (entry_item e) = SaysEntry strings r e
SaysItem strings r end_item = r.kind ≡ 4

-- the rows have the data of the items, one row for each
abbrev pub SayAll : List ℕ → List KdlRow → List Item → Type 0
SayAll strings [] [] = Unit {0}
SayAll strings (r ∷ rs) (i ∷ is) = SaysItem strings r i × SayAll strings rs is
SayAll strings [] (i ∷ is) = ⊥
SayAll strings (r ∷ rs) [] = ⊥

-- if the rows and the strings fit, the rows have the data of the items
abbrev pub RowsSay : List KdlRow → ℕ → List ℕ → ℕ → List Item → Type 0
RowsSay rows count strings used items = count ≤ length rows → used ≤ length strings → SayAll (take used strings) (take count rows) items
