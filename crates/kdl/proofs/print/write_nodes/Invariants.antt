use Rattle.kdl.proofs.Common.{◌≡◌, ℕ, ◌++◌, List, HasWritten, encode_utf8_all, print_nodes, count_left, print_left, nodes_tree}
use Rattle.std.specs.Fmt.{IsPlainFormatter}
use Rattle.kdl.proofs.print.write_nodes.Given as goal

abbrev pub invariant-left : goal.invariant-left
invariant-left g l =
    IsPlainFormatter l.fn.f
    → (bs : List ℕ) × HasWritten g.W.Write.write_str_gives l.fn.f bs l.f × (bs ++ encode_utf8_all (print_left l.rest l.above.items) ≡ encode_utf8_all (print_nodes (nodes_tree l.nodes) 0))

abbrev pub decreases-left : goal.decreases-left
decreases-left g l = count_left (λ o. o.following.now) l.rest l.above.items
