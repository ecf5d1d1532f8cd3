use Rattle.kdl_path.proofs.Ends.{newline_ends, semicolon_ends, unchanged}
use Rattle.kdl_path.proofs.laid.end.Goals as goal

pub returns-in-Newline : goal.returns-in-Newline
returns-in-Newline c = c.end_line.ensures newline_ends

pub returns-in-Semicolon : goal.returns-in-Semicolon
returns-in-Semicolon c = c.end_line-in-Semicolon.ensures semicolon_ends

pub returns-in-Nothing : goal.returns-in-Nothing
returns-in-Nothing c = unchanged c.args.node.now
