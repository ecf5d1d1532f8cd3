use Rattle.std.proofs.Common.{Bool, [], ◌∷◌, cond, ap, ◌∙◌, chars}
use Rattle.kdl_text.specs.Chars.{Text}
use Rattle.kdl_report.specs.Places.{first_line}
use Rattle.kdl_report.proofs.WindowSteps.{row_cut}
use Rattle.kdl_report.proofs.window.excerpt_of.Goals as goal

pub returns : goal.returns
returns c =
    let mark = λ (whole : Bool). cond {A = Text} whole [] (0x2026 ∷ []) in
    row_cut 200 c.args.number (chars c.args.left.now) (first_line (chars c.args.text.now)) (first_line (chars c.args.marked.now))
    (chars c.dots.result.now) (chars c.end-left.result.text.now) (chars c.front-right.result.text.now) (chars c.dots-2.result.now) (chars c.front-marked.result.text.now) c.front-kept.result.columns c.end-left.result.columns
    (record {
      kept = c.front-kept.ensures.columns;
      left = c.end-left.ensures.text;
      taken = c.end-left.ensures.columns;
      before = c.dots.ensures ∙ ap mark c.end-left.ensures.whole;
      right = c.front-right.ensures.text;
      after = c.dots-2.ensures ∙ ap mark c.front-right.ensures.whole;
      marked = c.front-marked.ensures.text;
    })
