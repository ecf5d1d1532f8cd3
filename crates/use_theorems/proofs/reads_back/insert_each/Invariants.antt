use Rattle.std.proofs.Common.{Bor, ◌≡◌, ℕ, ◌<◌, List, Some, get_or, true}
use Rattle.kdl.specs.Words.{ReadsAs, property_value, truth}
use Rattle.use_theorems.proofs.reads_back.insert_each.Given as goal

abbrev pub invariant-loop-name : goal.invariant-loop-name
invariant-loop-name l = record {
  sets : (k : ℕ) → k < l.name-index → (d : Bor (List ℕ)) → property_value (get_or l.names k d).now l.node ≡ Some (truth true);
  reads : ReadsAs l.initial.node l.node;
}
