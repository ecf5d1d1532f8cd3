use Rattle.std.proofs.Common.{◌∙◌, []}
use Rattle.lsp.specs.Replies.{greeting_json}
use Rattle.lsp.proofs.Growing.{grown, grows_on, next}
use Rattle.lsp.proofs.Nesting.{begun, greeted, wrote}
use Rattle.lsp.proofs.request.greeting.Goals as goal

pub returns : goal.returns
returns c =
    let w = c.in_ok-out.ensures in
    let one = c.in_ok-end_object.ensures in
    let two = c.in_ok-end_object-2.ensures in
    let capable = c.in_ok-put_capabilities.ensures.members _ (begun _ _ _ w.0 w.1) in
    let server = c.in_ok-put_server.ensures.members _ (wrote _ _ _ _ _ one capable) in
    let end = wrote _ _ _ _ _ two server in
    let half = grows_on _ _ _ _ _ _ c.in_ok-put_capabilities.ensures.grows (grown _ _ _ _ _ one.room.0 one.ok) in
    let all = grows_on _ _ _ _ _ _ (grows_on _ _ _ _ _ _ half c.in_ok-put_server.ensures.grows) (grown _ _ _ _ _ two.room.0 two.ok) in
    let more = next [] _ _ _ _ w.1 all.1.1 in
    let g = greeted c.args.encoding _ _ _ (all.0 ∙ w.0) more end in
    (g.0, g.1, c.end.ensures.value (greeting_json c.args.encoding g.0 g.1) (all.0 ∙ w.0, g.2))
