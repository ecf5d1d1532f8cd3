use Rattle.std.proofs.Common.{Bor, List, map, subst, ℕ}
use Rattle.std.proofs.lemmas.List.{map_more, take_all}
use Rattle.cli_world.proofs.Acting.{no_file, one_more}
use Rattle.cli.specs.Formats.{FormatsFile, FormatsFiles}
use Rattle.cli.proofs.files.format_files.Goals as goal

pub loop-name-init : goal.loop-name-init
loop-name-init g c = no_file _ _

pub loop-name-preserved : goal.loop-name-preserved
loop-name-preserved g c =
    let more = map_more (λ (n : Bor (List ℕ)). n.now) c.args.names.now c.loop-name.name-index _ c.loop-name-test.true in
    one_more (FormatsFile c.args.job.now) _ _ _ _ _ c.format_file-tally.result _ _ _ c.loop-name.invariant c.format_file-tally.ensures more c.worst-status.ensures

pub returns : goal.returns
returns g c =
    let all = take_all c.loop-name.name-index c.args.names.now c.loop-name-test.false in
    subst (λ (ns : List (Bor (List ℕ))). FormatsFiles c.args.job.now (map (λ (n : Bor (List ℕ)). n.now) ns) (g.W.World.seen c.args.world.now) (g.W.World.seen c.loop-name.world) c.loop-name.status) all c.loop-name.invariant
