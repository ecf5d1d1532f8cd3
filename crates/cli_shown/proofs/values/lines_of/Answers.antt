use Rattle.cli_shown.proofs.values.lines_of.Goals as goal

pub loop-value-init : goal.loop-value-init
loop-value-init c = c.new-lines.ensures.bytes
