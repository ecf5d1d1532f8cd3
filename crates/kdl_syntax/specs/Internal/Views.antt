-- What the fields of the controls represent.
use Rattle.std.specs.Prelude.{Bool, true, false, reverse}
use Rattle.kdl_syntax.specs.Control as c
use Rattle.kdl_syntax.specs.NodeControl as n
use Rattle.kdl_syntax.specs.declared.control.Control.{Control}
use Rattle.kdl_syntax.specs.declared.control.Ended.{Ended}
use Rattle.kdl_syntax.specs.declared.control.Ended.TheVariants.{Entry, Block}
use Rattle.kdl_syntax.specs.declared.lexer.TokenKind.{TokenKind}
use Rattle.kdl_syntax.specs.declared.lexer.TokenKind.TheVariants.{String, Left, Space, Newline}
use Rattle.kdl_syntax.specs.declared.node_control.NodeControl.{NodeControl}

-- the last of the open blocks is the innermost
abbrev pub control_view : Control → c.Control
control_view m = c.at m.phase (reverse m.frames.items)

abbrev pub node_view : NodeControl → n.NodeControl
node_view m = n.in_text m.begun (control_view m.control)

-- whether what ends is a block
abbrev pub ended_view : Ended → Bool
ended_view Entry = false
ended_view Block = true

-- a token that begins a node between nodes
abbrev pub begins_node : TokenKind → Bool
begins_node (String s) = true
begins_node Left = true
begins_node _ = false

-- a token that is made of line-spaces
abbrev pub is_line_space : TokenKind → Bool
is_line_space Space = true
is_line_space Newline = true
is_line_space _ = false
