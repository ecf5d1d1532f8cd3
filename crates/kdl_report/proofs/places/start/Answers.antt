use Rattle.std.proofs.Common.{◌<◌, ◌^◌, refl, sym, ap, chars, rules, arith}
use Rattle.kdl_text.specs.Spans.{bytes}
use Rattle.std.proofs.Common.{length}
use Rattle.kdl_text.proofs.Looking.Texts.{bytes-chars}
use Rattle.kdl_report.proofs.PlaceSteps.{before_zero, from_zero}
use Rattle.kdl_report.proofs.places.start.Goals as goal

pub returns : goal.returns
returns c =
    let b = before_zero (chars c.args.text.now) in
    let f = from_zero (chars c.args.text.now) in
    let size : length c.args.text.now < 2 ^ 63 = search rules in
    record {
      text = refl;
      is = record { small = rw (bytes-chars _ c.utf8.text) size; at = ap bytes b; rest = sym f; line = rw b refl; column = rw b refl; line_text = rw (b, f) refl };
      within = omega arith;
      before = refl;
      from = refl;
    }
