use Rattle.kdl_text.proofs.Spacing.NewlineUnique.{reads_cr, reads_one}
use Rattle.kdl_text.proofs.cursor.newline.Goals as goal

pub returns-in-Some-eq13-clause-reads : goal.returns-in-Some-eq13-clause-reads
returns-in-Some-eq13-clause-reads c = (reads_cr _ _ _ _ _ _ c.in-Some-eq13.ensures.result c.in-Some-eq13.field-0-test c.look.ensures.moved c.step.ensures c.eat.ensures).0

pub returns-in-Some-eq13-clause-moves : goal.returns-in-Some-eq13-clause-moves
returns-in-Some-eq13-clause-moves c = (reads_cr _ _ _ _ _ _ c.in-Some-eq13.ensures.result c.in-Some-eq13.field-0-test c.look.ensures.moved c.step.ensures c.eat.ensures).1

pub returns-in-Some-clause-reads : goal.returns-in-Some-clause-reads
returns-in-Some-clause-reads c = (reads_one _ _ _ _ c.in-Some.ensures.result c.in-Some.c-test.1 c.if-is_newline_char.ensures c.look.ensures.moved c.step-in-Some.ensures).0

pub returns-in-Some-clause-moves : goal.returns-in-Some-clause-moves
returns-in-Some-clause-moves c = (reads_one _ _ _ _ c.in-Some.ensures.result c.in-Some.c-test.1 c.if-is_newline_char.ensures c.look.ensures.moved c.step-in-Some.ensures).1
