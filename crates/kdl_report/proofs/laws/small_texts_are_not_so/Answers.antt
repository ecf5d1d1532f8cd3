use Rattle.std.proofs.Common.{arith}
use Rattle.kdl_text.specs.Chars.{is_banned, is_newline_char}
use Rattle.kdl_report.proofs.laws.small_texts_are_not_so.Goals as goal

pub returns-clause-newlines : goal.returns-clause-newlines
unfolding is_newline_char
returns-clause-newlines c = λ h. omega (arith, h)

pub returns-clause-column : goal.returns-clause-column
unfolding is_newline_char
returns-clause-column c = λ h. omega (arith, h)

pub returns-clause-line : goal.returns-clause-line
unfolding is_newline_char
returns-clause-line c = λ h. cc h

pub returns-clause-shown : goal.returns-clause-shown
unfolding is_banned
returns-clause-shown c = λ h. cc h

pub returns-clause-carets : goal.returns-clause-carets
returns-clause-carets c = λ h. cc h
