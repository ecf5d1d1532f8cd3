use Rattle.std.proofs.Common.{add-one, Bor, ℕ, List, [], ◌≡◌, ◌≤◌, ◌∙◌, ap, subst, sym, take}
use Rattle.std.proofs.lemmas.List.{take_all}
use Rattle.lsp_documents.specs.Notes.{Agrees, after}
use Rattle.lsp_tests.specs.Told.{all_after}
use Rattle.lsp_tests.proofs.Notes.{after_one_more, as_many, tells_at}
use Rattle.lsp_tests.proofs.told.tell_all.Goals as goal

pub loop-i-preserved : goal.loop-i-preserved
loop-i-preserved c running notes texts tells agrees =
    let old = c.args.state.now in
    let now = c.loop-i.state in
    let new = c.step-replies.new.state in
    let e = old.client.encoding in
    let i = c.loop-i.i in
    let before = c.loop-i.invariant running notes texts tells agrees in
    let d : Bor (List ℕ) = record { ref_ptr = (0, 0); now = [] } in
    let it = tells_at (λ m. m.now) c.args.messages.now notes i d c.loop-i-test.true tells in
    let stays = c.step-replies.ensures.session it.0 it.1 in
    let said : Agrees new (after now.client.encoding it.0 (all_after e (take i notes) texts)) =
    c.step-replies.ensures.told (before.0.0 ∙ running) it.0 (all_after e (take i notes) texts) it.1 before.1 in
    let here : Agrees new (after e it.0 (all_after e (take i notes) texts)) =
    subst (λ k. Agrees new (after k.encoding it.0 (all_after e (take i notes) texts))) before.0.1 said in (
      (stays.0 ∙ before.0.0, stays.1 ∙ before.0.1),
      subst (λ ns. Agrees new (all_after e ns texts)) (sym (ap (λ k. take k notes) (add-one i) ∙ it.2))
          (subst (λ t. Agrees new t) (sym (after_one_more e (take i notes) it.0 texts)) here),
    )

pub returns : goal.returns
returns c running notes texts tells agrees =
    let old = c.args.state.now in
    let before = c.loop-i.invariant running notes texts tells agrees in
    let i = c.loop-i.i in
    let all : take i notes ≡ notes = take_all i notes (subst (λ n. n ≤ i) (sym (as_many (λ m. m.now) c.args.messages.now notes tells)) c.loop-i-test.false) in
    subst (λ ns. Agrees c.loop-i.state (all_after old.client.encoding ns texts)) all before.1
