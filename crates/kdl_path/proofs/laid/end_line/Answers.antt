use Rattle.kdl_path.proofs.laid.end_line.Goals as goal

pub returns : goal.returns
returns c = λ h. c.end_with.ensures (c.in_ok-ends.ensures h)
