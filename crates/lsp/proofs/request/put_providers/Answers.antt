use Rattle.std.proofs.lemmas.Result.{on_ok_weaker}
use Rattle.lsp.proofs.Growing.{grown, grows_on}
use Rattle.lsp.proofs.request.put_providers.Goals as goal

pub returns-clause-members : goal.returns-clause-members
returns-clause-members c =
    on_ok_weaker c.put_true-6.result
    (λ e n is. (
    let one = c.in_ok-put_true.ensures.members _ is in
    let two = c.in_ok-put_true-2.ensures.members _ one in
    let three = c.in_ok-put_true-3.ensures.members _ two in
    let four = c.in_ok-put_true-4.ensures.members _ three in
    let five = c.in_ok-put_true-5.ensures.members _ four in
    e _ five))
    c.put_true-6.ensures.members

pub returns-clause-grows : goal.returns-clause-grows
returns-clause-grows c =
    let two = grows_on _ _ _ _ _ _ (grown _ _ c.args.out.now.tokens _ _ c.in_ok-put_true.ensures.before c.in_ok-put_true.ensures.written) (grown _ _ _ _ _ c.in_ok-put_true-2.ensures.before c.in_ok-put_true-2.ensures.written) in
    let three = grows_on _ _ _ _ _ _ two (grown _ _ _ _ _ c.in_ok-put_true-3.ensures.before c.in_ok-put_true-3.ensures.written) in
    let four = grows_on _ _ _ _ _ _ three (grown _ _ _ _ _ c.in_ok-put_true-4.ensures.before c.in_ok-put_true-4.ensures.written) in
    let five = grows_on _ _ _ _ _ _ four (grown _ _ _ _ _ c.in_ok-put_true-5.ensures.before c.in_ok-put_true-5.ensures.written) in
    on_ok_weaker c.put_true-6.result (λ e. grows_on _ _ _ _ _ _ five (grown _ _ _ _ _ c.put_true-6.ensures.before e)) c.put_true-6.ensures.written
