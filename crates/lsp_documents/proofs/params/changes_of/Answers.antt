use Rattle.std.proofs.Common.{rules, ◌≡◌, ◌∷◌, [], ◌++◌}
use Rattle.json.specs.Value.{value_view}
use Rattle.lsp_documents.specs.Notes.{IsChange}
use Rattle.lsp_documents.proofs.Values.{change_at, next_change}
use Rattle.lsp_text.specs.declared.change.Change.{Change}
use Rattle.lsp_text.specs.Positions.{change_of}
use Rattle.lsp_documents.proofs.params.changes_of.Goals as goal

pub loop-value-preserved : goal.loop-value-preserved
loop-value-preserved c =
    let v = c.value-item.result in
    let change : Change = record { range = c.in-Some.range; text = c.in_ok-text.text } in
    let one : IsChange (value_view v) (change_of change) = search rules in
    let pushed : c.push.new.self.items ≡ c.loop-value.changes.items ++ change ∷ [] = search rules in
    next_change value_view c.args.values.now c.loop-value.value-index v c.loop-value.changes.items c.push.new.self.items change c.loop-value-test.true c.value-item.is c.loop-value.invariant one pushed

pub returns-in_default-clause-each : goal.returns-in_default-clause-each
returns-in_default-clause-each c changes each =
    let it = change_at value_view c.args.values.now c.loop-value.value-index c.value-item.result changes c.loop-value-test.true c.value-item.is each in
    c.in_default.ensures.each it.0 it.1
