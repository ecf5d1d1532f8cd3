use Rattle.std.proofs.Common.{subst, sym}
use Rattle.json.specs.Value.{value_view}
use Rattle.lsp_documents.specs.Notes.{Agrees, Changed}
use Rattle.lsp_documents.specs.Outcomes.{SaysUnknown}
use Rattle.lsp_documents.proofs.Agreeing.{change_told, open_taken, open_untold}
use Rattle.lsp_documents.proofs.state.State.notify.Goals as goal

pub returns-in-text-clause-untold : goal.returns-in-text-clause-untold
returns-in-text-clause-untold c none texts agrees = subst (λ s. Agrees s texts) (sym (c.did_open.ensures.untold (open_untold c.args.method.now (value_view c.args.params.now) c.in-text.is none))) agrees

pub returns-in-text-clause-taken : goal.returns-in-text-clause-taken
returns-in-text-clause-taken c running note tells =
    open_taken c.args.method.now (value_view c.args.params.now) c.args.self.now c.did_open.new.self (SaysUnknown c.did_open.result) note c.in-text.is tells c.did_open.ensures.known

pub returns-in-text-2-clause-told : goal.returns-in-text-2-clause-told
returns-in-text-2-clause-told c running note texts tells agrees =
    change_told c.args.self.now.client.encoding c.args.method.now (value_view c.args.params.now) c.args.self.now c.did_change.new.self note texts c.in-text-2.is tells c.did_change.ensures.told agrees

pub returns-in-text-2-clause-untold : goal.returns-in-text-2-clause-untold
returns-in-text-2-clause-untold c none texts agrees = c.did_change.ensures.untold (λ uri changes is has. none (Changed uri changes) (c.in-text-2.is, is, has)) texts agrees
