use Rattle.kdl_report.specs.Rows.{end_of}
use Rattle.kdl_report.proofs.LineLaws.{line_is}
use Rattle.kdl_report.proofs.laws.shown_lines_are_lines.Goals as goal

pub returns-clause-first : goal.returns-clause-first
returns-clause-first c = λ span t. line_is span.offset t

pub returns-clause-last : goal.returns-clause-last
returns-clause-last c = λ span t. line_is (end_of span) t
