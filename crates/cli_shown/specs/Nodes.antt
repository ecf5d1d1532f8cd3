-- Nodes, as a view shows them.
use Rattle.std.specs.List.{flat_map}
use Rattle.std.specs.Option.{option_map_or}
use Rattle.std.specs.Prelude.{◌≡◌, ℕ, ◌-◌, Bool, true, false, List, [], ◌∷◌, ◌++◌, ◌==◌, if◌then◌else◌, None, Option, Some, decimal, encode_utf8_all, length, option_map, slice_get}
use Rattle.kdl.specs.Words.{Node, Nodes, Text, document_says, node_says, node_tree, print_node, said_argument, said_nodes}
use Rattle.kdl.specs.declared.document.KdlDocument.{KdlDocument}
use Rattle.kdl.specs.declared.node.KdlNode.{KdlNode}
use Rattle.kdl_grammar.specs.Tree.{NodeFormat, node}
use Rattle.kdl_json.specs.Form.{node_json_text}
use Rattle.kdl_query.specs.Data.{Query}
use Rattle.kdl_query.specs.Held.{held_at}
use Rattle.kdl_query.specs.Selects.{IsSelection, Path}
use Rattle.cli_shown.specs.Names.{path_bytes}
use Rattle.cli_shown.specs.Values.{line_of}
use Rattle.cli_shown.specs.declared.nodes.View.{View}
use Rattle.cli_shown.specs.declared.nodes.View.TheVariants as view

-- what a node prints after its leading text
abbrev pub without_leading : NodeFormat → NodeFormat
without_leading f = record f { leading = [] }

abbrev pub node_text : Node → Text
node_text (node h k) = print_node (node (record h { format = option_map without_leading h.format }) k) 0

-- whether the last byte is a newline
abbrev pub is_newline : Option ℕ → Bool
is_newline None = false
is_newline (Some b) = b == 10

abbrev pub ends_line : List ℕ → Bool
ends_line s = is_newline (slice_get s (length s - 1))

-- a text with a newline at its end, which is added if it is missing
abbrev pub ended : List ℕ → List ℕ
ended s = if ends_line s then s else s ++ (10 ∷ [])

-- what a view shows of a node, wherever it is: its text, its first argument, its JSON
abbrev pub part_shown : View → KdlNode → List ℕ
part_shown view.Text n = ended (encode_utf8_all (node_text (node_tree n)))
part_shown view.Raw n = option_map_or (line_of true) (said_argument 0 (node_says n)) []
part_shown view.Json n = node_json_text (node_says n) ++ (10 ∷ [])
part_shown _ n = []

-- what it shows of the node at a path: that, or its PATH
abbrev pub node_shown : View → Nodes → Path → KdlNode → List ℕ
node_shown view.Paths x p n = path_bytes p (said_nodes x) ++ (10 ∷ [])
node_shown v x p n = part_shown v n

-- what it shows of the path itself: nothing, if no node is there
abbrev pub shown_at : View → KdlDocument → Path → List ℕ
shown_at v d p = option_map_or (node_shown v (document_says d) p) (held_at p d) []

-- what it shows of each of these paths, or their number
abbrev pub shown : View → KdlDocument → List Path → List ℕ
shown view.Count d ps = decimal (length ps) ++ (10 ∷ [])
shown v d ps = flat_map (shown_at v d) ps

-- it shows this of the nodes that the query selects, and they are so many
pub record ShowsSelected (v : View) (q : Query) (d : KdlDocument) (out : List ℕ) (count : ℕ) : Type 0 where
  pub paths : List Path
  pub selection : IsSelection (document_says d) q paths
  pub counts : count ≡ length paths
  pub shows : out ≡ shown v d paths
