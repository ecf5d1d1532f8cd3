use Rattle.std.proofs.Common.{◌≡◌, ◌++◌, drop, length, take}
use Rattle.kdl_query.specs.Turns.{turned}
use Rattle.kdl_path.specs.Internal.Cursor.{path_of, whole}
use Rattle.kdl_path.proofs.cursor.Cursor.turn.Given as goal

-- the first indices of the path are as before
abbrev pub invariant-loop-self : goal.invariant-loop-self
invariant-loop-self l = record {
  whole : whole l.self ≡ whole l.fn.self;
  path : take l.turn.kept (path_of l.self) ≡ take l.turn.kept (path_of l.fn.self);
}

abbrev pub decreases-loop-self : goal.decreases-loop-self
decreases-loop-self l = length (path_of l.self)

-- the rest of the turn leads on to its path
abbrev pub invariant-loop-index : goal.invariant-loop-index
invariant-loop-index l = record {
  whole : whole l.self ≡ whole l.fn.self;
  path : path_of l.self ++ drop l.index-index l.index-items ≡ turned (path_of l.fn.self) l.turn;
}
