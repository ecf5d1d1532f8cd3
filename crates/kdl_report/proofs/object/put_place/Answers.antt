use Rattle.std.proofs.Common.{◌++◌, ap, codes, ◌∙◌}
use Rattle.kdl_report.specs.Object.{number_member, place_members}
use Rattle.kdl_report.specs.Places.{line_number}
use Rattle.kdl_report.proofs.ObjectSteps.{and_part, last_part, nothing}
use Rattle.kdl_report.proofs.object.put_place.Goals as goal

pub returns : goal.returns
returns c =
    let p = c.place-place.ensures in
    let place = c.place-place.result in
    let span = c.args.fault.now.span in
    let out = c.args.out.now in
    let line = number_member (codes "line") place.line in
    let column = number_member (codes "column") place.column in
    let offset = number_member (codes "offset") span.offset in
    let len = number_member (codes "length") span.len in
    let a = and_part out out c.put_number.new.out _ line (nothing out) c.in_ok-put_number.ensures in
    let b = and_part out c.put_number.new.out c.put_number-2.new.out _ column a c.in_ok-put_number-2.ensures in
    let d = and_part out c.put_number-2.new.out c.put_number-3.new.out _ offset b c.in_ok-put_number-3.ensures in
    last_part c.put_number-4.result out c.put_number-3.new.out c.put_number-4.new.out _ len (place_members c.args.lines.now c.args.fault.now) d c.put_number-4.ensures
    (ap (λ n. number_member (codes "line") n ++ column ++ offset ++ len) p.line
    ∙ ap (λ n. number_member (codes "line") (line_number span.offset c.args.lines.now) ++ number_member (codes "column") n ++ offset ++ len) p.column)
