use Rattle.std.proofs.Common.{◌≡◌, ◌≤◌, ◌++◌, drop, length, map, string_bytes}
use Rattle.kdl.specs.Words.{node_says}
use Rattle.cli_shown.specs.Names.{path_bytes}
use Rattle.cli_shown.specs.Internal.Trail.{AreFirst, IsAt, step_texts, trail_ranks, trail_steps}
use Rattle.cli_shown.proofs.names.push_steps.Given as goal

-- the steps so far, and those of the rest, are all
abbrev pub invariant-loop-index : goal.invariant-loop-index
invariant-loop-index l = record {
  text : string_bytes l.out ++ path_bytes l.rest (map node_says l.nodes) ≡ string_bytes l.fn.out ++ path_bytes l.fn.path (map node_says l.fn.nodes);
  at : IsAt (trail_ranks l.trail) l.depth l.rest (map node_says l.nodes) l.fn.path (map node_says l.fn.nodes);
  steps : AreFirst (trail_steps l.trail) (step_texts l.fn.path (map node_says l.fn.nodes));
  rest : drop l.depth (step_texts l.fn.path (map node_says l.fn.nodes)) ≡ step_texts l.rest (map node_says l.nodes);
  within : l.depth ≤ length (trail_steps l.trail);
}

abbrev pub decreases-loop-index : goal.decreases-loop-index
decreases-loop-index l = length l.rest
