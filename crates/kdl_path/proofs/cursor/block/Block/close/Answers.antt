use Rattle.std.proofs.Common.{rules, ◌≡◌, ◌∙◌, [], sym}
use Rattle.kdl_path.proofs.Cursors.{moved, none_apart}
use Rattle.kdl_path.proofs.cursor.block.Block.close.Goals as goal

pub returns : goal.returns
returns c =
    let b = c.loop-block.block in
    let now = c.put_back.new.self in
    let none : now.after.items ≡ [] = search rules in
    sym (none_apart now none) ∙ moved b now c.in_ok-put_back.ensures.moved ∙ moved c.args.self b c.loop-block.invariant
