use Rattle.kdl_layout.proofs.Common.{sym, arith, append-nil, text_of, tail}
use Rattle.kdl_layout.proofs.Rewriting.Pushing.{one_more, all_written, tail_after}
use Rattle.kdl_layout.proofs.written.push_tail.Goals as goal

pub loop-item-init : goal.loop-item-init
loop-item-init c = sym (append-nil (text_of c.args.out.now))

pub loop-item-preserved : goal.loop-item-preserved
loop-item-preserved c =
    one_more tail tail_after c.args.items.now c.loop-item.item-index _ (text_of c.push_after_space.new.out) (text_of c.loop-item.out) (text_of c.args.out.now) (omega arith)
    c.in_ok-push_after_space.ensures c.loop-item.invariant

pub returns : goal.returns
returns c = all_written tail c.args.items.now c.loop-item.item-index (text_of c.loop-item.out) (text_of c.args.out.now) (omega arith) c.loop-item.invariant
