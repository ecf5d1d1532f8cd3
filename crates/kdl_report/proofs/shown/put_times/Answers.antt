use Rattle.std.proofs.Common.{◌≡◌, ◌+◌, suc, ap, ◌∙◌, arith}
use Rattle.kdl_text.specs.Chars.{times}
use Rattle.kdl_report.proofs.Appended.{and_then, as_piece, times_push}
use Rattle.kdl_report.proofs.shown.put_times.Goals as goal

pub loop-k-preserved : goal.loop-k-preserved
loop-k-preserved c =
    let k = c.loop-k._k in
    let e : suc k ≡ k + 1 = omega arith in
    as_piece _ _ _ _ (and_then _ _ _ _ _ c.loop-k.invariant c.in_ok-put_char.ensures) (times_push k c.args.c ∙ ap (λ z. times z c.args.c) e)
