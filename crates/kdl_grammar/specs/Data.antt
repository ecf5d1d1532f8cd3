-- The data of a document, whatever its form.
use Rattle.std.specs.Prelude.{List, Option}
use Rattle.kdl_text.specs.Chars.{Text}
use Rattle.kdl_entry.specs.Data.{Entry}

mutual
  -- an optional type, a name, entries, and optional children
  pub data Node : Type 0 where
    node : Option Text → Text → List Entry → Children → Node

  -- no child block, or one with its nodes; an empty block differs from none
  pub data Children : Type 0 where
    no_children : Children
    children : Nodes → Children

  pub data Nodes : Type 0 where
    none : Nodes
    first : Node → Nodes → Nodes
