use Rattle.kdl_syntax.specs.Internal.Views.{control_view}
use Rattle.kdl.proofs.AcceptedLoop.{ended, faulty, next_refused, next_shorter, next_taken}
use Rattle.kdl.proofs.acceptance.is_accepted.Goals as goal

pub tokens-smaller : goal.tokens-smaller
tokens-smaller c = next_shorter c.tokens.cursor.rest c.next_kind.new.cursor.rest c.in-Ok-Some.kind (rw c.in-Ok-Some.field-0-is at c.in-Ok-Some.ensures)

pub tokens-preserved : goal.tokens-preserved
tokens-preserved c =
    next_taken c.tokens.cursor.rest c.next_kind.new.cursor.rest c.in-Ok-Some.kind (control_view c.tokens.control) c.tokens.invariant (control_view c.take.new.self)
    (rw c.in-Ok-Some.field-0-is at c.in-Ok-Some.ensures) (rw c.if-not-is_taken.false at c.in_ok-is_taken.ensures)

pub returns-then-not-is_taken : goal.returns-then-not-is_taken
returns-then-not-is_taken c =
    next_refused c.tokens.cursor.rest c.next_kind.new.cursor.rest c.in-Ok-Some.kind (control_view c.tokens.control) c.tokens.invariant
    (rw c.in-Ok-Some.field-0-is at c.in-Ok-Some.ensures) (rw c.if-not-is_taken.true at c.in_ok-is_taken.ensures)

pub returns-in-Ok-None : goal.returns-in-Ok-None
returns-in-Ok-None c = ended c.may_end.result c.tokens.cursor.rest (control_view c.tokens.control) (rw c.in-Ok-None.field-0-is at c.in-Ok-None.ensures) c.may_end.ensures c.tokens.invariant

pub returns-in-Err-Faulty : goal.returns-in-Err-Faulty
returns-in-Err-Faulty c = faulty c.tokens.cursor.rest (control_view c.tokens.control) (rw c.in-Err-Faulty.field-0-is at c.in-Err-Faulty.ensures) c.tokens.invariant
