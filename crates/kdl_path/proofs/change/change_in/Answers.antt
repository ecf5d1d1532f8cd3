use Rattle.std.proofs.Common.{rules, ◌≡◌, length, refl, Some, slice_get}
use Rattle.std.proofs.lemmas.Option.{slice_get_read}
use Rattle.kdl.specs.Words.{nodes_of}
use Rattle.c_calls.proofs.OpenSteps.{set_in}
use Rattle.kdl_path.proofs.Changes.{on_ok}
use Rattle.kdl_path.proofs.change.change_in.Goals as goal

pub returns-in-Some : goal.returns-in-Some
returns-in-Some c =
    let d = c.args.block.now in
    let n = c.in-Some.node.now in
    let i = c.args.index in
    let ns = nodes_of d in
    let at : slice_get ns i ≡ Some n = slice_get_read ns (length ns) i n refl (search rules) (search rules) in
    on_ok c.make.result (λ h. record { old = n; new = c.make.new.node; there = at; made = h; rest = set_in d c.nodes_mut.result.now i c.make.new.node c.nodes_mut.ensures.value }) c.make.ensures
