use Rattle.std.proofs.Common.{List, ℕ, All, map, take}
use Rattle.kdl.specs.Words.{IsToldOf}
use Rattle.c_calls.specs.Listed.{AreListed, fault_of}
use Rattle.c_calls.specs.Rows.{AreTold}
use Rattle.c_calls.proofs.faults.put_faults.Given as goal

-- the faults so far have their rows, and are written
abbrev pub invariant-loop-at : goal.invariant-loop-at
invariant-loop-at l = record {
  told : (text : List ℕ) → All (IsToldOf text) l.found → AreTold text l.out l.at l.strings l.used;
  listed : AreListed (map fault_of (take l.at l.found)) l.fn.out l.out l.at l.fn.strings l.strings l.used;
}
