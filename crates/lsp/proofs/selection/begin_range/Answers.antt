use Rattle.std.proofs.Common.{arith, ◌∙◌, ap}
use Rattle.std.proofs.lemmas.Result.{on_ok_weaker}
use Rattle.lsp.specs.Internal.Nesting.{Members}
use Rattle.lsp.proofs.Nesting.{first_object, next_object, wrote, wrote_last}
use Rattle.lsp.proofs.selection.begin_range.Goals as goal

pub returns-then-depth-eq0 : goal.returns-then-depth-eq0
returns-then-depth-eq0 c n is =
    on_ok_weaker c.begin_object.result (λ e. e _ is ∙ ap Members (first_object c.args.depth n (omega arith))) (wrote_last _ _ _ _ c.begin_object.ensures)

pub returns : goal.returns
returns c n is =
    let key = wrote _ _ _ _ _ c.in_ok-key.ensures is in
    on_ok_weaker c.begin_object-2.result (λ e. e _ key ∙ ap Members (next_object c.args.depth n (omega arith))) (wrote_last _ _ _ _ c.begin_object-2.ensures)
