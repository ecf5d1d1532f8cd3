use Rattle.std.proofs.lemmas.Result.{on_ok_weaker}
use Rattle.lsp.proofs.Nesting.{wrote}
use Rattle.lsp.proofs.Growing.{grown, grows_on}
use Rattle.lsp.proofs.request.put_capabilities.Goals as goal

pub returns-clause-members : goal.returns-clause-members
returns-clause-members c =
    on_ok_weaker c.put_token_provider.result
    (λ e n is. (
    let one = c.in_ok-put_sync.ensures.members _ is in
    let two = c.in_ok-put_providers.ensures.members _ one in
    let three = wrote _ _ _ _ _ c.in_ok-key.ensures two in
    let four = wrote _ _ _ _ _ c.in_ok-begin_object.ensures three in
    let five = wrote _ _ _ _ _ c.in_ok-end_object.ensures four in
    let six = c.in_ok-put_fixes.ensures.members _ five in
    e _ six))
    c.put_token_provider.ensures.members

pub returns-clause-grows : goal.returns-clause-grows
returns-clause-grows c =
    let two = grows_on _ _ _ _ _ _ c.in_ok-put_sync.ensures.grows c.in_ok-put_providers.ensures.grows in
    let three = grows_on _ _ _ _ _ _ two (grown _ _ _ _ _ c.in_ok-key.ensures.room.0 c.in_ok-key.ensures.ok) in
    let four = grows_on _ _ _ _ _ _ three (grown _ _ _ _ _ c.in_ok-begin_object.ensures.room.0 c.in_ok-begin_object.ensures.ok) in
    let five = grows_on _ _ _ _ _ _ four (grown _ _ _ _ _ c.in_ok-end_object.ensures.room.0 c.in_ok-end_object.ensures.ok) in
    let six = grows_on _ _ _ _ _ _ five c.in_ok-put_fixes.ensures.grows in
    on_ok_weaker c.put_token_provider.result (λ e. grows_on _ _ _ _ _ _ six e) c.put_token_provider.ensures.grows
