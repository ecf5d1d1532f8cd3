use Rattle.std.proofs.Common.{ap}
use Rattle.kdl_report.specs.Picture.{paint}
use Rattle.kdl_report.specs.Shown.{shown}
use Rattle.kdl_report.proofs.Appended.{and_last, and_then, as_piece}
use Rattle.kdl_report.proofs.picture.put_head.Goals as goal

pub returns : goal.returns
returns c =
    let a = as_piece _ _ _ _ c.in_ok-put_paint.ensures (ap (paint c.args.color) c.style_of.ensures) in
    let b = and_then _ _ _ _ _ a (as_piece _ _ _ _ c.in_ok-put.ensures c.word_of.ensures) in
    let d = and_then _ _ _ _ _ b c.in_ok-put_paint-2.ensures in
    let e = and_then _ _ _ _ _ d c.in_ok-put_paint-3.ensures in
    let f = and_then _ _ _ _ _ e c.in_ok-put-2.ensures in
    let g = and_then _ _ _ _ _ f (as_piece _ _ _ _ c.in_ok-put_shown.ensures (ap shown c.message_of.ensures)) in
    let h = and_then _ _ _ _ _ g c.in_ok-put_paint-4.ensures in
    and_last c.put_char.result _ _ _ _ _ h c.put_char.ensures
