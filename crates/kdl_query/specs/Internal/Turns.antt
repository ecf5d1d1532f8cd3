-- What a walk keeps of the last path that it turned to.
use Rattle.std.specs.Prelude.{◌≡◌, ◌≤◌, ◌-◌, ℕ, length, take}
use Rattle.kdl_query.specs.Selects.{Path}
use Rattle.kdl_query.specs.Internal.Visits.{levels_of, path_of}
use Rattle.kdl_query.specs.declared.walk.Walk.{Walk}

-- the indices that are kept are those of the path
pub record Keeps (p : Path) (w : Walk) : Type 0 where
  pub within : w.kept ≤ length w.levels.items
  pub same : take w.kept p ≡ take w.kept (path_of (levels_of w))

-- the levels around the innermost one that are not kept
abbrev pub unkept : Walk → ℕ
unkept w = length w.levels.items - 1 - w.kept
