use Rattle.std.proofs.Common.{rules, IsNone, ◌∙◌, ap, option_map, subst, sym}
use Rattle.json.specs.Value.{value_view}
use Rattle.lsp_documents.specs.Notes.{Agrees, with_text}
use Rattle.lsp_documents.proofs.Agreeing.{one_uri}
use Rattle.lsp_documents.proofs.Due.{none_open}
use Rattle.lsp_documents.specs.States.{document_at}
use Rattle.lsp_text.specs.Positions.{all_changed}
use Rattle.lsp_documents.proofs.state.State.did_change.Goals as goal

pub returns-then-is_known-clause-told : goal.returns-then-is_known-clause-told
returns-then-is_known-clause-told c uri changes texts is has agrees =
    let same = one_uri c.uri.result c.in-Some.uri (value_view c.args.params.now) uri c.uri.ensures c.in-Some.is is in
    subst (λ u. Agrees c.change_due.new.self (with_text texts u (all_changed c.args.self.now.client.encoding changes (texts u)))) same
    (c.change_due.ensures.told changes texts has agrees)

pub returns-then-is_known-clause-untold : goal.returns-then-is_known-clause-untold
returns-then-is_known-clause-untold c none texts agrees =
    c.change_due.ensures.untold (λ changes has. none c.in-Some.uri.now changes (sym c.uri.ensures ∙ ap (option_map (λ s. s.now)) c.in-Some.is) has) texts agrees

pub returns-else-is_known-clause-told : goal.returns-else-is_known-clause-told
returns-else-is_known-clause-told c uri changes texts is has agrees =
    let same = one_uri c.uri.result c.in-Some.uri (value_view c.args.params.now) uri c.uri.ensures c.in-Some.is is in
    subst (λ u. Agrees c.change_due.new.self (with_text texts u (all_changed c.args.self.now.client.encoding changes (texts u)))) same
    (c.change_due.ensures.told changes texts has agrees)

pub returns-else-is_known-clause-untold : goal.returns-else-is_known-clause-untold
returns-else-is_known-clause-untold c none texts agrees =
    c.change_due.ensures.untold (λ changes has. none c.in-Some.uri.now changes (sym c.uri.ensures ∙ ap (option_map (λ s. s.now)) c.in-Some.is) has) texts agrees

pub returns-then-not-contains_key-clause-due : goal.returns-then-not-contains_key-clause-due
returns-then-not-contains_key-clause-due c uri is said opened =
    let none : IsNone (document_at c.args.self.now uri) = search rules in
    absurd (none_open (document_at c.args.self.now uri) none opened)
