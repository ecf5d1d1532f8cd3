use Rattle.std.proofs.Common.{refl, arith}
use Rattle.kdl_report.specs.Places.{first_line, from}
use Rattle.kdl_report.specs.Rows.{end_of}
use Rattle.kdl_report.proofs.LineLaws.{mark_is}
use Rattle.kdl_report.proofs.laws.marks_are_parts_of_lines.Goals as goal

pub returns-clause-first : goal.returns-clause-first
returns-clause-first c = λ span t. mark_is span.offset (end_of span) t (omega arith)

pub returns-clause-last : goal.returns-clause-last
returns-clause-last c = λ span t. (first_line (from (end_of span) t), refl)
