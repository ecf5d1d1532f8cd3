use Rattle.std.proofs.Common.{◌≡◌, drop}
use Rattle.kdl.specs.Words.{nodes_of}
use Rattle.c_calls.specs.Paths.{nodes_at}
use Rattle.c_calls.proofs.path.nodes_at.Given as goal

-- what is left of the path leads from these nodes where the whole path leads from the document
abbrev pub invariant-loop-index : goal.invariant-loop-index
invariant-loop-index l = nodes_at (drop l.index-index l.path) l.nodes ≡ nodes_at l.path (nodes_of l.document)
