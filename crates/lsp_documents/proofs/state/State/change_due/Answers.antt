use Rattle.std.proofs.Common.{rules, ◌≡◌, ◌∙◌, ap, map, subst, sym}
use Rattle.json.specs.Value.{value_view}
use Rattle.lsp_documents.specs.Notes.{Agrees, with_text}
use Rattle.lsp_documents.proofs.Agreeing.{agrees_changed, agrees_open}
use Rattle.lsp_documents.proofs.Due.{due_kept}
use Rattle.lsp_documents.proofs.Values.{one_list_of_changes}
use Rattle.lsp_text.specs.Positions.{all_changed, change_of}
use Rattle.lsp_documents.proofs.state.State.change_due.Goals as goal

pub returns-in-Some-clause-told : goal.returns-in-Some-clause-told
returns-in-Some-clause-told c changes texts has agrees =
    let uri = c.args.uri.now in
    let old = c.args.self.now in
    let now = c.due_changes.new.self in
    let new = c.change.new.self in
    let found = c.in-Some.ensures.found in
    let whole : c.deref.result.now ≡ c.in-Some.changes.items = search rules in
    let same : changes ≡ map change_of c.deref.result.now =
    one_list_of_changes (value_view c.args.params.now) changes _ has found ∙ ap (map change_of) (sym whole) in
    let before : Agrees now texts = agrees_open old now texts c.due_changes.ensures.open agrees in
    let client : now.client ≡ old.client = search rules in
    subst (λ e. Agrees new (with_text texts uri (all_changed e changes (texts uri)))) (ap (λ k. k.encoding) client)
    (subst (λ cs. Agrees new (with_text texts uri (all_changed now.client.encoding cs (texts uri)))) (sym same)
    (agrees_changed now.client.encoding c.deref.result.now c.version.result now new texts uri before c.change.ensures.only.others c.change.ensures.changed))

pub returns-in-Some-clause-untold : goal.returns-in-Some-clause-untold
returns-in-Some-clause-untold c none texts agrees = absurd (none (map change_of c.in-Some.changes.items) c.in-Some.ensures.found)

pub returns-in-Some-clause-due : goal.returns-in-Some-clause-due
returns-in-Some-clause-due c known = due_kept c.due_changes.new.self c.change.new.self _ c.change.ensures.only.due c.in-Some.ensures.due
