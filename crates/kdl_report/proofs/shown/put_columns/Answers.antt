use Rattle.std.proofs.Common.{◌≡◌, ◌++◌, sym, ap, ◌∙◌, nat_eq}
use Rattle.std.specs.Str.{chars}
use Rattle.std.proofs.lemmas.Iterator.{YieldsList-from_chars}
use Rattle.std.proofs.lemmas.Iterator.Consumers.{YieldsList-end}
use Rattle.std.proofs.lemmas.List.{map-id}
use Rattle.kdl_text.specs.Chars.{times}
use Rattle.kdl_report.specs.Shown.{columns, shown, text_of}
use Rattle.kdl_report.proofs.Appended.{bare_push, marks_push}
use Rattle.kdl_report.proofs.shown.put_columns.Goals as goal

pub loop-c-preserved : goal.loop-c-preserved
loop-c-preserved c = (
  bare_push c.loop-c.yielded c.in-Some.c c.columns_of-n.result c.loop-c.bare c.loop-c.invariant.0 c.columns_of-n.ensures.value,
  marks_push _ _ _ c.loop-c.yielded c.in-Some.c c.columns_of-n.result c.args.mark c.loop-c.invariant.1 c.in_ok-put_times.ensures c.columns_of-n.ensures.value,
)

pub returns-clause-bare : goal.returns-clause-bare
returns-clause-bare c =
    let all : c.loop-c.yielded ≡ chars c.args.text.now = sym (map-id _) ∙ (YieldsList-end (YieldsList-from_chars c.args.text.now c.utf8.text cc) c.loop-c.yielded _ c.loop-c.yielded_by _ _ c.in-None.is c.next.ensures.steps).0 in
    c.loop-c.invariant.0 ∙ ap (λ z. nat_eq (columns (shown z)) 0) all

pub returns-clause-marks : goal.returns-clause-marks
returns-clause-marks c =
    let all : c.loop-c.yielded ≡ chars c.args.text.now = sym (map-id _) ∙ (YieldsList-end (YieldsList-from_chars c.args.text.now c.utf8.text cc) c.loop-c.yielded _ c.loop-c.yielded_by _ _ c.in-None.is c.next.ensures.steps).0 in
    c.loop-c.invariant.1 ∙ ap (λ z. text_of c.args.out.now ++ times (columns (shown z)) c.args.mark) all
