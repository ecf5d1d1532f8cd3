use Rattle.std.proofs.Common.{◌≡◌, arith, true, ◌||◌}
use Rattle.std.proofs.lemmas.Grind.{common_steps}
use Rattle.std.proofs.Output.{has_written_of_eq}
use Rattle.kdl_text.specs.Chars.{is_newline_char, is_banned}
use Rattle.kdl_value.proofs.Spelling.SpellingBytes.{coded_bytes}
use Rattle.kdl_value.proofs.spelled.write_char_text.Goals as goal

pub returns-then-is_banned : goal.returns-then-is_banned
returns-then-is_banned g c plain ok =
    let h = rw c.in_radix.ensures at c.write.ensures.writes in
    let coded : (is_newline_char c.args.c || is_banned c.args.c) ≡ true = grind (arith, common_steps) in
    has_written_of_eq _ _ _ _ _ (rw c.from-code.ensures (coded_bytes c.args.c (omega arith) (grind (arith, common_steps)) coded)) (h plain ok)
