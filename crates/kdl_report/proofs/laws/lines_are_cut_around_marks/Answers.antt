use Rattle.std.proofs.Common.{◌-◌, ◌/◌}
use Rattle.kdl_report.specs.Windows.{front_in, right_room, rooms}
use Rattle.kdl_report.proofs.WindowLaws.{end_ends, first_shown, front_begins, parts_fit, whole_row}
use Rattle.kdl_report.proofs.laws.lines_are_cut_around_marks.Goals as goal

pub returns-clause-short : goal.returns-clause-short
returns-clause-short c = whole_row

pub returns-clause-fits : goal.returns-clause-fits
returns-clause-fits c = parts_fit

pub returns-clause-left : goal.returns-clause-left
returns-clause-left c = λ n left right. end_ends (n - rooms (front_in (n / 2) right)) left

pub returns-clause-right : goal.returns-clause-right
returns-clause-right c = λ n left right. front_begins (right_room n left right) right

pub returns-clause-first : goal.returns-clause-first
returns-clause-first c = first_shown
