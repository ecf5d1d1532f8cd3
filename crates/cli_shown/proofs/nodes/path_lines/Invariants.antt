use Rattle.std.proofs.Common.{◌≡◌, ◌++◌, [], drop, string_bytes}
use Rattle.std.specs.List.{flat_map}
use Rattle.kdl.specs.Words.{document_says, said_nodes}
use Rattle.kdl_query.specs.Turns.{paths_from}
use Rattle.cli_shown.specs.Nodes.{shown_at}
use Rattle.cli_shown.specs.declared.nodes.View.TheVariants.{Paths}
use Rattle.cli_shown.specs.Internal.Trail.{IsTrail}
use Rattle.cli_shown.proofs.nodes.path_lines.Given as goal

-- what is shown so far, and what the turns that are left give, is all
abbrev pub invariant-loop-turn : goal.invariant-loop-turn
invariant-loop-turn l = record {
  text : string_bytes l.out ++ flat_map (shown_at Paths l.document) (paths_from l.path.items (drop l.turn-index l.turns)) ≡ flat_map (shown_at Paths l.document) (paths_from [] l.turns);
  trail : IsTrail l.trail l.path.items (said_nodes (document_says l.document));
}
