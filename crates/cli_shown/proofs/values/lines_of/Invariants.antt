use Rattle.std.proofs.Common.{◌≡◌, map, string_bytes, take}
use Rattle.std.specs.List.{flat_map}
use Rattle.kdl.specs.Words.{value_tree}
use Rattle.cli_shown.specs.Values.{line_of}
use Rattle.cli_shown.proofs.values.lines_of.Given as goal

-- a line for each value so far
abbrev pub invariant-loop-value : goal.invariant-loop-value
invariant-loop-value l = string_bytes l.lines ≡ flat_map (line_of l.raw) (map (λ v. value_tree v.now) (take l.value-index l.values))
