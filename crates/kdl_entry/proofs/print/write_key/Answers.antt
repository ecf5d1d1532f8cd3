use Rattle.std.proofs.Common.{rules}
use Rattle.kdl_value.proofs.Spelling.PrintedTexts.{then_writes}
use Rattle.kdl_entry.proofs.print.write_key.Goals as goal

pub returns-in_ok-write_text-2 : goal.returns-in_ok-write_text-2
returns-in_ok-write_text-2 g c plain ok =
    let one = c.fmt.ensures.writes plain (search rules) in
    let two = c.write_text.ensures one.plain (search rules) in
    let three = c.write_char.ensures two.plain (search rules) in
    let four = c.write_text-in-Some.ensures three.plain (search rules) in
    rw c.in-Some.is (then_writes _ _ _ (then_writes _ _ _ (then_writes _ _ _ one two) three) four)
