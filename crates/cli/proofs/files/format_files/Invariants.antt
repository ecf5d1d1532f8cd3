use Rattle.std.proofs.Common.{map, take}
use Rattle.cli.specs.Formats.{FormatsFiles}
use Rattle.cli.proofs.files.format_files.Given as goal

-- the files so far are formatted
abbrev pub invariant-loop-name : goal.invariant-loop-name
invariant-loop-name g l = FormatsFiles l.job (map (λ n. n.now) (take l.name-index l.names)) (g.W.World.seen l.initial.world) (g.W.World.seen l.world) l.status
