use Rattle.kdl_path.proofs.laid.indented.Goals as goal

pub returns : goal.returns
returns c = record { spaces = _; are = c.in_ok-out.ensures; is = c.in_ok-push_text.ensures }
