-- Documents to whose list of nodes a node can be pushed.
use Rattle.std.specs.Prelude.{◌≡◌, ◌⊎◌, ◌-◌, [], Option, Some, None, codes, length, slice_get}
use Rattle.kdl_text.specs.Chars.{Text}
use Rattle.kdl_value.specs.Tree.{text_of}
use Rattle.kdl_layout.specs.Kept.{without_bom}
use Rattle.kdl_grammar.specs.Print.{leading_text}
use Rattle.kdl_grammar.specs.ReadsBack.{AddsNothing}
use Rattle.kdl_grammar.specs.Tree.{DocumentFormat}
use Rattle.kdl.specs.DocumentLookups.{nodes_of}
use Rattle.kdl.specs.Nodes.{texts_around}
use Rattle.kdl.specs.ReadsBack.{NodeEnds}
use Rattle.kdl.specs.declared.document.KdlDocument.{KdlDocument}
use Rattle.kdl.specs.declared.node.KdlNode.{KdlNode}
use Rattle.kdl_parts.specs.declared.format.KdlNodeFormat.{KdlNodeFormat}

-- the node ends by itself, or, if there is no node, the text before the nodes, after U+FEFF, does
abbrev pub EndsBefore : Option DocumentFormat → Option KdlNode → Type 0
EndsBefore o None = AddsNothing (without_bom (leading_text o))
EndsBefore o (Some n) = NodeEnds n

-- what a document prints before a node that is pushed to its nodes ends by itself
abbrev pub LastEnds : KdlDocument → Type 0
LastEnds d = EndsBefore (texts_around d) (slice_get (nodes_of d) (length (nodes_of d) - 1))

-- the text ends a node: it is one `;` or one newline
abbrev pub EndsLine : Text → Type 0
EndsLine t = (t ≡ codes ";") ⊎ (t ≡ codes "\n")

-- a node ends in one `;` or one newline, with no text after that; one without a format does not
abbrev pub IsLineEnded : Option KdlNodeFormat → Type 0
IsLineEnded None = ⊥
IsLineEnded (Some f) = (text_of f.trailing ≡ []) × EndsLine (text_of f.terminator)
