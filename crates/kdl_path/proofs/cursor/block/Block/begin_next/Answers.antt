use Rattle.std.proofs.Common.{rules, ◌≡◌, ◌<◌, ◌-◌, refl, slice_index_or, take}
use Rattle.std.specs.Vec.{with_item}
use Rattle.kdl_query.proofs.Levels.{ends_in, set_last}
use Rattle.kdl_path.specs.declared.cursor.block.Block.{Block}
use Rattle.kdl_path.proofs.Changes.{on_ok}
use Rattle.kdl_path.proofs.Cursors.{next_laid}
use Rattle.kdl_path.proofs.cursor.block.Block.begin_next.Goals as goal

pub returns-in-Some-last_mut-clause-laid : goal.returns-in-Some-last_mut-clause-laid
returns-in-Some-last_mut-clause-laid c =
    let b = c.args.self.now in
    let v = b.after in
    let n = c.in-Some-last_mut.next.now in
    let m = c.begin_line.new.node in
    let now : Block = record { document = b.document; after = with_item v (v.len - 1) m } in
    let some : 0 < v.len = search rules in
    let own : n ≡ slice_index_or v.items (v.len - 1) n = search rules in
    on_ok c.begin_line.result (λ h. next_laid b now n m (take (v.len - 1) v.items) (ends_in v.len v.items n v.ok.0 some own) (set_last v.len v.items m v.ok.0 some) refl h) c.begin_line.ensures
