use Rattle.kdl_text.proofs.ManyLines.LineUnits.{plain_spells}
use Rattle.kdl_text.proofs.strings.dedent.plain_line.Goals as goal

pub returns : goal.returns
returns c = plain_spells c.args.text.now c.utf8.text
