use Rattle.std.proofs.Common.{◌≡◌, IfSome, IsSome, IsSomeAnd, Some, codes, subst, sym}
use Rattle.lsp.specs.Messages.{AsksForIn, AsksIn, IsIgnored, StartsIn, TellsIn, method_of, params_of}
use Rattle.lsp_documents.specs.Notes.{Changed, uri_of}
use Rattle.lsp.proofs.Sending.{sent_of_all, some_sent}
use Rattle.lsp.proofs.message.replies.Goals as goal

pub returns-in-Ok-clause-takes : goal.returns-in-Ok-clause-takes
returns-in-Ok-clause-takes c =
    let is = c.in-Ok.ensures.ok in
    let t = c.take.ensures in
    let r = c.take.result in
    record {
      refused = λ none. absurd (cc (is, none));
      told = λ running note texts tells. t.told running note texts (subst (λ o. IsSomeAnd o (λ j. TellsIn j note)) is tells);
      untold = λ none. t.untold (λ note tells. none note (subst (λ o. IsSomeAnd o (λ j. TellsIn j note)) (sym is) tells));
      session = λ note tells. t.session note (subst (λ o. IsSomeAnd o (λ j. TellsIn j note)) is tells);
      stays = λ uri changes tells. sent_of_all r _ (t.stays uri changes (subst (λ o. IsSomeAnd o (λ j. TellsIn j (Changed uri changes))) is tells));
      others = λ some. sent_of_all r _ (λ uri names. t.others uri (λ named. names (subst (λ o. IsSomeAnd o (λ j. uri_of (params_of j) ≡ Some uri)) (sym is) named)));
      all = λ quiet. sent_of_all r _ (t.all (subst (λ o. IsSomeAnd o (λ j. IfSome (method_of j) IsIgnored)) is quiet));
      taken = λ running note tells. some_sent r _ (t.taken running note (subst (λ o. IsSomeAnd o (λ j. TellsIn j note)) is tells));
      replied = λ id asks. some_sent r _ (t.replied id (subst (λ o. IsSomeAnd o (λ j. AsksIn j id)) is asks));
      unasked = λ notifies. some_sent r _ (t.unasked (subst (λ o. IsSomeAnd o (λ j. IsSome (method_of j))) is notifies));
      answered = λ running id method params asks. some_sent r _ (t.answered running id method params (subst (λ o. IsSomeAnd o (λ j. AsksForIn j id method params)) is asks));
      started = λ early id starts. some_sent r _ (t.started early id (subst (λ o. IsSomeAnd o (λ j. StartsIn j id)) is starts));
      client = t.client;
      exited = λ exits. sent_of_all r _ (t.exited (subst (λ o. IsSomeAnd o (λ j. method_of j ≡ Some (codes "exit"))) is exits));
      goes_on = λ none. t.goes_on (λ exits. none (subst (λ o. IsSomeAnd o (λ j. method_of j ≡ Some (codes "exit"))) (sym is) exits));
    }

pub returns-in-Ok-clause-marks : goal.returns-in-Ok-clause-marks
returns-in-Ok-clause-marks c running note tells =
    some_sent c.take.result _ (c.take.ensures.due running note (subst (λ o. IsSomeAnd o (λ j. TellsIn j note)) c.in-Ok.ensures.ok tells))
