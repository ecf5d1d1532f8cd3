use Rattle.std.proofs.Common.{Bor, List, map, refl, subst, ℕ}
use Rattle.std.proofs.lemmas.List.{map_more, take_all}
use Rattle.cli.proofs.SearchSteps.{SearchedSoFar, no_files_yet, searched_all, searched_more}
use Rattle.cli.proofs.query.search_files.Goals as goal

pub loop-name-init : goal.loop-name-init
loop-name-init g c = record { found = no_files_yet c.args.search.now (g.W.World.seen c.args.world.now) }

pub loop-name-preserved : goal.loop-name-preserved
loop-name-preserved g c =
    let more = map_more (λ (n : Bor (List ℕ)). n.now) c.args.names.now c.loop-name.name-index _ c.loop-name-test.true in
    record { found = searched_more c.args.search.now _ _ _ _ _ _ c.search_file-tally.result c.loop-name.status c.worst-status.result c.loop-name.is_hit _ c.loop-name.invariant.found c.search_file-tally.ensures more c.worst-status.ensures refl }

pub returns : goal.returns
returns g c =
    let all = take_all c.loop-name.name-index c.args.names.now c.loop-name-test.false in
    let so = subst (λ (ns : List (Bor (List ℕ))). SearchedSoFar c.args.search.now (map (λ (n : Bor (List ℕ)). n.now) ns) (g.W.World.seen c.args.world.now) (g.W.World.seen c.loop-name.world) c.loop-name.status c.loop-name.is_hit) all c.loop-name.invariant.found in
    searched_all c.args.search.now _ _ _ c.loop-name.status c.status_of.result _ c.loop-name.is_hit so c.status_of.ensures c.worst.ensures
