use Rattle.std.proofs.Common.{rules, ◌≡◌, Some, sym}
use Rattle.kdl.specs.Words.{block_of, with_children}
use Rattle.kdl_path.proofs.Changes.{on_ok}
use Rattle.kdl_path.proofs.Ends.{block_kept, block_laid, twice}
use Rattle.kdl_path.proofs.change.make_room.Goals as goal

pub returns-in-Some : goal.returns-in-Some
returns-in-Some c =
    let own : block_of c.args.node.now ≡ Some c.in-Some.block = search rules in
    on_ok c.end_last.result (λ h. block_laid c.args.node.now c.in-Some.block c.end_last.new.block own h) c.end_last.ensures

pub returns-in-None : goal.returns-in-None
returns-in-None c =
    let o = c.children_mut.result.now in
    on_ok c.space_before_block.result (λ h. twice c.args.node.now (with_children c.args.node.now o) c.space_before_block.new.node (block_kept c.args.node.now o (sym c.children_mut.ensures.value)) h) c.space_before_block.ensures
