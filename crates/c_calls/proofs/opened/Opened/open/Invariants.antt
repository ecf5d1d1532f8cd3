use Rattle.std.proofs.Common.{drop}
use Rattle.c_calls.specs.Internal.Opened.{IsOnTheWay}
use Rattle.c_calls.proofs.opened.Opened.open.Given as goal

-- the rest of the path leads on from the block
abbrev pub invariant-loop-index : goal.invariant-loop-index
invariant-loop-index l = IsOnTheWay (drop l.index-index l.path) l.path l.fn.document l.opened
