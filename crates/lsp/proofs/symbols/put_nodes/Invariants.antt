-- The arrays of the levels are open.
use Rattle.std.proofs.Common.{◌+◌, ◌≡◌}
use Rattle.std.specs.List.{sum_by}
use Rattle.kdl.specs.Internal.Count.{count_nodes}
use Rattle.lsp.specs.Internal.Levels.{in_levels}
use Rattle.lsp.specs.Internal.Nesting.{after_value, nesting}
use Rattle.lsp.proofs.symbols.put_nodes.Given as goal

abbrev pub decreases-loop-level : goal.decreases-loop-level
decreases-loop-level l = sum_by (λ x. 1 + count_nodes x.left.now) l.levels.items

abbrev pub invariant-loop-level : goal.invariant-loop-level
invariant-loop-level l = nesting l.out ≡ in_levels (after_value (nesting l.fn.out)) l.levels.items
