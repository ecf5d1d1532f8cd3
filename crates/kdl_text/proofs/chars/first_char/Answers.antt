use Rattle.kdl_text.proofs.Looking.Texts.{bytes-chars}
use Rattle.kdl_text.proofs.chars.first_char.Goals as goal

pub returns-clause-len : goal.returns-clause-len
returns-clause-len c = bytes-chars _ c.utf8.text
