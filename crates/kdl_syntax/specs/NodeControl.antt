-- The control of a node text: that of a document, but after the node only line-spaces may come.
use Rattle.std.specs.Prelude.{Bool, true, false, ◌&&◌, [], Option, Some, None}
use Rattle.kdl_syntax.specs.Tokens.{Token, space, newline, string, left}
use Rattle.kdl_syntax.specs.Control.{Control, at, step, finish}
use Rattle.kdl_syntax.specs.declared.control.Phase.TheVariants.{Gap}

-- whether the node has begun, and the control
pub data NodeControl : Type 0 where
  in_text : Bool → Control → NodeControl

abbrev pub with_begun : Bool → Option Control → Option NodeControl
with_begun b None = None
with_begun b (Some c) = Some (in_text b c)

-- between nodes, with no block open: a string or a `(` begins the node
abbrev pub between_nodes : Bool → Token → Option NodeControl
between_nodes true space = Some (in_text true (at Gap []))
between_nodes true newline = Some (in_text true (at Gap []))
between_nodes true _ = None
between_nodes false (string v) = with_begun true (step (at Gap []) (string v))
between_nodes false left = with_begun true (step (at Gap []) left)
between_nodes false k = with_begun false (step (at Gap []) k)

-- the control after the token; none if the token may not come here
abbrev pub node_step : NodeControl → Token → Option NodeControl
node_step (in_text b (at Gap [])) k = between_nodes b k
node_step (in_text b c) k = with_begun b (step c k)

-- the text may end here
abbrev pub node_finish : NodeControl → Bool
node_finish (in_text b c) = b && finish c

-- at the start of the text
abbrev pub node_start : NodeControl
node_start = in_text false (at Gap [])
