use Rattle.std.proofs.Common.{◌++◌, ◌∷◌, []}
use Rattle.lsp_frames.proofs.Growing.{frames_more}
use Rattle.lsp_frames.proofs.Taken.{given, given_shorter, items_pushed}
use Rattle.lsp_frames.proofs.messages.take_all.Goals as goal

pub loop-message-smaller : goal.loop-message-smaller
loop-message-smaller c =
    let f = c.next_message.follows in
    given_shorter c.loop-message.frames f.lender-at-none c.in-Some.message.now (given _ _ _ c.in-Some.ensures.message f.holds-at-none)

pub loop-message-preserved : goal.loop-message-preserved
loop-message-preserved c =
    let f = c.next_message.follows in
    let h = c.loop-message.invariant in
    let message = c.in-Some.message.now in (
      h.0 ++ message ∷ [],
      items_pushed (λ m. m.items) _ _ c.args.messages.now.items c.in_ok-from_slice.field-0 message h.0 c.in_ok-push.ensures.items c.in_ok-from_slice.ensures.items h.1,
      frames_more _ h.0 c.loop-message.frames message f.lender-at-none h.2 (given _ _ _ c.in-Some.ensures.message f.holds-at-none),
    )
