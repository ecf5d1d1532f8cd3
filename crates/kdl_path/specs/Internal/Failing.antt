-- What the failures of parts of an edit mean.
use Rattle.kdl_path.specs.declared.failure.EditFailure.{EditFailure}
use Rattle.kdl_path.specs.declared.failure.EditFailure.TheVariants as edit

-- the failure is memory, or it is of VALUE, and Q holds
abbrev pub NoValueIf : Type 0 → EditFailure → Type 0
NoValueIf Q edit.Value = Q
NoValueIf Q edit.Memory = Unit {0}
NoValueIf Q _ = ⊥

-- the failure is memory, or it is of what is missing, and Q holds
abbrev pub MissesIf : Type 0 → EditFailure → Type 0
MissesIf Q (edit.Missing m) = Q
MissesIf Q edit.Memory = Unit {0}
MissesIf Q _ = ⊥

-- the failure is memory, or it is of a node, and Q holds
abbrev pub NoNodeIf : Type 0 → EditFailure → Type 0
NoNodeIf Q (edit.Node e) = Q
NoNodeIf Q edit.Memory = Unit {0}
NoNodeIf Q _ = ⊥
