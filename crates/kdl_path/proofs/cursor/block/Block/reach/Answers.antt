use Rattle.std.proofs.Common.{rules, ◌≡◌, []}
use Rattle.kdl_path.proofs.Cursors.{moved, past_all}
use Rattle.kdl_path.proofs.cursor.block.Block.reach.Goals as goal

pub returns-then-not-branch-clause-missing : goal.returns-then-not-branch-clause-missing
returns-then-not-branch-clause-missing c =
    let b = c.loop-self.self in
    let none : b.after.items ≡ [] = search rules in
    past_all c.args.self.now b c.args.index c.loop-self.invariant none (search rules)

pub returns-clause-same : goal.returns-clause-same
returns-clause-same c = moved c.args.self.now c.loop-self.self c.loop-self.invariant
