use Rattle.kdl_value.specs.Tree.{text_of}
use Rattle.kdl_path.specs.Internal.Laid.{IsSpaces}
use Rattle.kdl_path.proofs.laid.spaces.Given as goal

-- the text so far is spaces or tabs
abbrev pub invariant-loop-space : goal.invariant-loop-space
invariant-loop-space l = IsSpaces (text_of l.out)
