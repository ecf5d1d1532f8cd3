use Rattle.std.proofs.Common.{length, map}
use Rattle.kdl.specs.Tree.{document_says, node_says}
use Rattle.kdl_json.proofs.Walking.{Walked, stack, tokens_left}
use Rattle.kdl_json.proofs.write.write_nodes.Given as goal

-- the tokens so far, and those of the nodes that are left, are all tokens
abbrev pub invariant-left : goal.invariant-left
invariant-left l = Walked l.fn.out l.out (map node_says l.rest) (stack l.above.items) (document_says l.document)

-- the tokens that are left
abbrev pub decreases-left : goal.decreases-left
decreases-left l = length (tokens_left (map node_says l.rest) (stack l.above.items))
