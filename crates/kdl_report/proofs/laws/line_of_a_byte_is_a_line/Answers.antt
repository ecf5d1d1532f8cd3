use Rattle.kdl_report.proofs.LineLaws.{line_is}
use Rattle.kdl_report.proofs.laws.line_of_a_byte_is_a_line.Goals as goal

pub returns : goal.returns
returns c = line_is
