use Rattle.kdl_value.proofs.Spelling.PlainRuns.{boundary, front, front_as_is, rest_shorter}
use Rattle.kdl_value.proofs.spelled.before.Goals as goal

pub range-requires-clause-end_boundary : goal.range-requires-clause-end_boundary
range-requires-clause-end_boundary c = boundary _ _ c.requires c.utf8.s c.utf8.rest

pub returns-clause-parts : goal.returns-clause-parts
returns-clause-parts c = front _ _ _ c.requires c.utf8.s c.utf8.rest c.range.utf8 c.range.ensures.value

pub returns-clause-as_is : goal.returns-clause-as_is
returns-clause-as_is c = front_as_is _ _ _ c.requires (front _ _ _ c.requires c.utf8.s c.utf8.rest c.range.utf8 c.range.ensures.value)

pub overflow_sub-s : goal.overflow_sub-s
overflow_sub-s c = rest_shorter _ _ c.requires c.utf8.s c.utf8.rest
