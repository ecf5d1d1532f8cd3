use Rattle.std.proofs.Output.{has_written_of_eq}
use Rattle.kdl_value.proofs.Spelling.PrintedTexts.{char_bytes}
use Rattle.kdl_value.proofs.print.write_char.Goals as goal

pub returns : goal.returns
returns g c plain ok = has_written_of_eq _ _ _ _ _ (char_bytes c.args.c) (c.write_char.ensures.writes plain ok)
