use Rattle.std.proofs.Common.{rules, ◌≡◌, length, refl, Some, slice_get}
use Rattle.std.proofs.lemmas.Option.{slice_get_read}
use Rattle.c_calls.proofs.EditSteps.{on_err, on_ok}
use Rattle.c_calls.proofs.OpenSteps.{same_in, set_in}
use Rattle.kdl.specs.Words.{nodes_of}
use Rattle.c_calls.proofs.at_path.change_in.Goals as goal

pub returns-in-Some-clause-done : goal.returns-in-Some-clause-done
returns-in-Some-clause-done c =
    let d = c.args.block.now in
    let n = c.in-Some.node.now in
    let i = c.args.index in
    let ns = nodes_of d in
    let at : slice_get ns i ≡ Some n = slice_get_read ns (length ns) i n refl (search rules) (search rules) in
    on_ok c.make.result (λ h. record { old = n; new = c.make.new.node; there = at; done = h; rest = set_in d c.nodes_mut.result.now i c.make.new.node c.nodes_mut.ensures.value }) c.make.ensures.done

pub returns-in-Some-clause-refused : goal.returns-in-Some-clause-refused
returns-in-Some-clause-refused c =
    let v = c.nodes_mut.result.now in
    let n = c.in-Some.node.now in
    let i = c.args.index in
    on_err c.make.result (λ h. same_in c.args.block.now v i n c.make.new.node c.nodes_mut.ensures.value (slice_get_read v.items (length v.items) i n refl (search rules) (search rules)) h) c.make.ensures.refused
