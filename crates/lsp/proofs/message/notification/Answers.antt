use Rattle.std.proofs.Common.{refl, subst}
use Rattle.std.proofs.lemmas.Result.{IfOk-weaker}
use Rattle.lsp.specs.Replies.{LogsOf}
use Rattle.lsp_documents.specs.Outcomes.{IsTaken, MarksDue, SaysUnknown}
use Rattle.lsp_documents.specs.declared.notify.Outcome.TheVariants.{Unknown}
use Rattle.lsp.proofs.Sending.{logs_of_alone, marks_on, taken_on}
use Rattle.lsp.proofs.message.notification.Goals as goal

pub returns-in_ok-unknown_notice-in-Unknown-clause-taken : goal.returns-in_ok-unknown_notice-in-Unknown-clause-taken
returns-in_ok-unknown_notice-in-Unknown-clause-taken c running note tells =
    let uri = c.in-Unknown.uri in
    let new = c.notify.new.self in
    IfOk-weaker c.one.result _ (λ out. IsTaken c.args.state.now new (LogsOf out.items) note)
    (λ out e. taken_on c.args.state.now new new (SaysUnknown (Unknown uri)) (LogsOf out.items) note refl
    (λ other says. subst (LogsOf out.items) says (logs_of_alone out.items uri.now _ e c.in_ok-unknown_notice-in-Unknown.ensures)) (c.in-Unknown.ensures.taken running note tells)) c.one.ensures

pub returns-in_ok-unknown_notice-in-Unknown-clause-due : goal.returns-in_ok-unknown_notice-in-Unknown-clause-due
returns-in_ok-unknown_notice-in-Unknown-clause-due c running note tells =
    let uri = c.in-Unknown.uri in
    let new = c.notify.new.self in
    IfOk-weaker c.one.result _ (λ out. MarksDue c.args.state.now new (LogsOf out.items) note)
    (λ out e. marks_on c.args.state.now new (SaysUnknown (Unknown uri)) (LogsOf out.items) note
    (λ other says. subst (LogsOf out.items) says (logs_of_alone out.items uri.now _ e c.in_ok-unknown_notice-in-Unknown.ensures)) (c.in-Unknown.ensures.due running note tells)) c.one.ensures
