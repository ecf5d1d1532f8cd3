use Rattle.kdl_syntax.specs.Tokens.{t_left, t_right, t_opening, t_closing, t_equals, t_semicolon, t_bom}
use Rattle.kdl_syntax.proofs.lexer.single_kind.Goals as goal

pub returns-in-40 : goal.returns-in-40
returns-in-40 c = λ r. rw c.in-40.is t_left

pub returns-in-41 : goal.returns-in-41
returns-in-41 c = λ r. rw c.in-41.is t_right

pub returns-in-123 : goal.returns-in-123
returns-in-123 c = λ r. rw c.in-123.is t_opening

pub returns-in-125 : goal.returns-in-125
returns-in-125 c = λ r. rw c.in-125.is t_closing

pub returns-in-61 : goal.returns-in-61
returns-in-61 c = λ r. rw c.in-61.is t_equals

pub returns-in-59 : goal.returns-in-59
returns-in-59 c = λ r. rw c.in-59.is t_semicolon

pub returns-in-65279 : goal.returns-in-65279
returns-in-65279 c = λ r. rw c.in-65279.is t_bom
