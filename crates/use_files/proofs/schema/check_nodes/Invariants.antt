use Rattle.std.proofs.Common.{◌≡◌, ◌++◌, flat_map, map, take}
use Rattle.use_files.specs.Breaches.{block_of, blocks_at, breach_view, breaches_at}
use Rattle.use_files.proofs.schema.check_nodes.Given as goal

abbrev pub invariant-loop-node : goal.invariant-loop-node
invariant-loop-node l = record {
  found : map breach_view l.found.items ≡ map breach_view l.initial.found.items ++ flat_map (breaches_at l.rules l.next.above.now) (take l.node-index l.node-items);
  due : map block_of l.due.items ≡ map block_of l.initial.due.items ++ flat_map (blocks_at l.rules l.next.above.now) (take l.node-index l.node-items);
}
