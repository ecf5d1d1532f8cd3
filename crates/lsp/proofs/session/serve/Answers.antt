use Rattle.std.proofs.Common.{arith, rules, ◌≡◌, ◌<◌, ◌∙◌, ap, length, refl, sym}
use Rattle.lsp.specs.Turns.{IsNew}
use Rattle.lsp_documents.specs.States.{is_over}
use Rattle.lsp_frames.specs.Frames.{frame_in}
use Rattle.lsp.proofs.Steps.{all_taken, begun, end_on, ended, going_read, gone_on, not_over, pushed_after}
use Rattle.lsp.proofs.session.serve.Goals as goal

pub loop-spare-init : goal.loop-spare-init
loop-spare-init g c = let b = begun _ _ c.new-state.result _ c.new-frames.ensures in (b.0, b.1, ap is_over c.new-state.ensures.phase)

pub loop-spare-preserved : goal.loop-spare-preserved
loop-spare-preserved g c =
    let h = c.loop-spare.invariant in
    let all = c.in_ok-serve_frames.ensures in
    let on = not_over c.serve_frames.new.state.phase c.in_default.not-Over in (
      gone_on _ _ _ _ _ _ _ _ _ _ _ _ _ h.0 c.in_ok-count.ensures.bytes.0 (pushed_after _ _ _ _ c.reserve.ensures c.in_ok-push.ensures.ok) all,
      all_taken _ _ _ all.ended refl on,
      on,
    )

pub returns-then-count-eq0 : goal.returns-then-count-eq0
returns-then-count-eq0 g c =
    let h = c.loop-spare.invariant in
    let n = c.new-state.ensures in
    let new : IsNew c.new-state.result = (n.phase, n.client, n.open, n.due) in
    let none : c.in_ok-count.count ≡ 0 = omega (arith, c.if-count-eq0.true) in
    let full : 0 < length c.read_some.new.chunk = search rules in
    let end = c.end_of_input.ensures c.loop-spare.state _ h.2 (c.in_ok-count.ensures.bytes.1 none full) (ap frame_in c.reserve.ensures ∙ h.1) in
    ended _ _ _ _ _ _ _ _ (going_read _ _ _ _ _ _ _ _ _ _ none c.in_ok-count.ensures.bytes.0 h.0) new (end_on c.end_of_input.result c.loop-spare.state c.reserve.new.self c.loop-spare.frames (g.R.Read.remaining c.read_some.new.input) c.reserve.ensures end)

pub returns-in-Over : goal.returns-in-Over
returns-in-Over g c =
    let h = c.loop-spare.invariant in
    let n = c.new-state.ensures in
    let new : IsNew c.new-state.result = (n.phase, n.client, n.open, n.due) in
    ended _ _ _ _ _ _ _ _ (gone_on _ _ _ _ _ _ _ _ _ _ _ _ _ h.0 c.in_ok-count.ensures.bytes.0 (pushed_after _ _ _ _ c.reserve.ensures c.in_ok-push.ensures.ok) c.in_ok-serve_frames.ensures) new c.in-Over.is

pub returns-then-is_bad : goal.returns-then-is_bad
returns-then-is_bad g c =
    let h = c.loop-spare.invariant in
    let n = c.new-state.ensures in
    let new : IsNew c.new-state.result = (n.phase, n.client, n.open, n.due) in
    ended _ _ _ _ _ _ _ _ (gone_on _ _ _ _ _ _ _ _ _ _ _ _ _ h.0 c.in_ok-count.ensures.bytes.0 (pushed_after _ _ _ _ c.reserve.ensures c.in_ok-push.ensures.ok) c.in_ok-serve_frames.ensures) new
    (not_over c.serve_frames.new.state.phase c.in_default.not-Over, sym c.is_bad.ensures ∙ c.if-is_bad.true)
