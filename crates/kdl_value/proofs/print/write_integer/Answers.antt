use Rattle.std.proofs.Common.{rules}
use Rattle.std.proofs.Output.{has_written_of_eq}
use Rattle.kdl_value.proofs.Spelling.PrintedTexts.{signed_bytes}
use Rattle.kdl_value.proofs.print.write_integer.Goals as goal

pub returns : goal.returns
returns g c plain ok = has_written_of_eq _ _ _ _ _ (signed_bytes c.args.x c.ranges.x.sfits) (search rules)
