use Rattle.kdl_layout.proofs.Common.{◌++◌, sym, ap, ◌∙◌, arith, append-nil, chars, Text, text_of, lines}
use Rattle.kdl_layout.proofs.Rewriting.Pushing.{one_more, all_written, lines_after}
use Rattle.kdl_layout.proofs.written.push_lines.Goals as goal

pub loop-item-init : goal.loop-item-init
loop-item-init c = sym (append-nil (text_of c.args.out.now))

pub loop-item-preserved : goal.loop-item-preserved
loop-item-preserved c =
    one_more (lines (chars c.args.before.now)) (lines_after (chars c.args.before.now)) c.args.items.now c.loop-item.item-index _ (text_of c.push_line.new.out) (text_of c.loop-item.out) (text_of c.args.out.now) (omega arith)
    (c.in_ok-push_line.ensures ∙ ap (λ (t : Text). text_of c.loop-item.out ++ t) (sym (append-nil _))) c.loop-item.invariant

pub returns : goal.returns
returns c = all_written (lines (chars c.args.before.now)) c.args.items.now c.loop-item.item-index (text_of c.loop-item.out) (text_of c.args.out.now) (omega arith) c.loop-item.invariant
