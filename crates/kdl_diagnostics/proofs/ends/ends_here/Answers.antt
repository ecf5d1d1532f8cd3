use Rattle.kdl_diagnostics.proofs.Passing.{returned_few}
use Rattle.kdl_diagnostics.proofs.ends.ends_here.Goals as goal

pub returns-then-c-eq47 : goal.returns-then-c-eq47
returns-then-c-eq47 c = returned_few 6 c.args.cursor.now c.begins_slash_lexeme.new.cursor c.begins_slash_lexeme.ensures
