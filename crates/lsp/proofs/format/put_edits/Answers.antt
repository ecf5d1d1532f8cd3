use Rattle.std.proofs.Common.{◌∙◌}
use Rattle.std.proofs.lemmas.Result.{on_ok_weaker}
use Rattle.lsp.proofs.Edits.{all_written, edit_written}
use Rattle.lsp.proofs.format.put_edits.Goals as goal

pub loop-edit-preserved : goal.loop-edit-preserved
loop-edit-preserved c =
    let h = c.loop-edit.invariant in
    let p = c.in_ok-put_edit.ensures in (
      p.before ∙ h.0,
      edit_written _ _ _ c.args.edits.now c.loop-edit.edit-index _ c.loop-edit-test.true h.1 p.written,
    )

pub returns-clause-written : goal.returns-clause-written
returns-clause-written c =
    on_ok_weaker c.end_array.result (all_written _ _ _ _ c.args.edits.now c.loop-edit.edit-index c.in_ok-begin_array.ensures.ok c.loop-edit-test.false c.loop-edit.invariant.1) c.end_array.ensures.ok
