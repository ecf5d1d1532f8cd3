use Rattle.std.proofs.Common.{sym, ◌∙◌, ap, Some, ◌≡◌, false, true}
use Rattle.std.proofs.lemmas.Bool.{cond-true, cond-false}
use Rattle.std.proofs.lemmas.Str.{chars-nil}
use Rattle.kdl_report.specs.Rows.{has_last_row}
use Rattle.kdl_report.specs.Windows.{cut_row}
use Rattle.kdl_report.proofs.RowSteps.{Ends, first_row_is, goes_on_is, last_row_is, rest_splits}
use Rattle.kdl_report.proofs.places.Lines.excerpts.Goals as goal

pub cut-marked-requires : goal.cut-marked-requires
cut-marked-requires c =
    let is : Ends c.args.span c.saturating_add.result c.args.self.now c.seek-start.result c.seek-end.result = record { starts = c.seek-start.ensures; ends = c.seek-end.ensures; cap = c.saturating_add.ensures } in
    (_, rest_splits _ _ _ _ _ is)

pub returns-then-not-goes_on-clause-first : goal.returns-then-not-goes_on-clause-first
returns-then-not-goes_on-clause-first c =
    let is : Ends c.args.span c.saturating_add.result c.args.self.now c.seek-start.result c.seek-end.result = record { starts = c.seek-start.ensures; ends = c.seek-end.ensures; cap = c.saturating_add.ensures } in
    c.excerpt_of-first.ensures ∙ ap (cut_row 200) (first_row_is _ _ _ _ _ _ _ is c.left_of.ensures c.cut-marked.ensures)

pub returns-then-not-goes_on-clause-last : goal.returns-then-not-goes_on-clause-last
returns-then-not-goes_on-clause-last c =
    let is : Ends c.args.span c.saturating_add.result c.args.self.now c.seek-start.result c.seek-end.result = record { starts = c.seek-start.ensures; ends = c.seek-end.ensures; cap = c.saturating_add.ensures } in
    let no : has_last_row c.args.span c.args.self.now ≡ false = sym (goes_on_is _ _ _ _ _ is) ∙ sym c.goes_on.ensures ∙ c.if-not-goes_on.true in
    sym (cond-false _ _ _ no)

pub returns-clause-first : goal.returns-clause-first
returns-clause-first c =
    let is : Ends c.args.span c.saturating_add.result c.args.self.now c.seek-start.result c.seek-end.result = record { starts = c.seek-start.ensures; ends = c.seek-end.ensures; cap = c.saturating_add.ensures } in
    c.excerpt_of-first.ensures ∙ ap (cut_row 200) (first_row_is _ _ _ _ _ _ _ is c.left_of.ensures c.cut-marked.ensures)

pub returns-clause-last : goal.returns-clause-last
returns-clause-last c =
    let is : Ends c.args.span c.saturating_add.result c.args.self.now c.seek-start.result c.seek-end.result = record { starts = c.seek-start.ensures; ends = c.seek-end.ensures; cap = c.saturating_add.ensures } in
    let so : has_last_row c.args.span c.args.self.now ≡ true = sym (goes_on_is _ _ _ _ _ is) ∙ sym c.goes_on.ensures ∙ c.if-not-goes_on.false in
    ap Some (c.excerpt_of-last.ensures ∙ ap (cut_row 200) (last_row_is _ _ _ _ _ _ _ is chars-nil c.left_of-2.ensures)) ∙ sym (cond-true _ _ _ so)
