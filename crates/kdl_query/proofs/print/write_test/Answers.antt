use Rattle.std.proofs.Common.{rules, [], ◌∷◌, ◌++◌}
use Rattle.kdl_value.proofs.Spelling.PrintedTexts.{then_writes}
use Rattle.kdl_query.specs.Printed.{print_accessor, print_compared}
use Rattle.kdl_query.specs.Tree.{accessor_says, literal_says}
use Rattle.kdl_query.proofs.print.write_test.Goals as goal

pub returns-in_ok-write_compared-in-Compares : goal.returns-in_ok-write_compared-in-Compares
returns-in_ok-write_compared-in-Compares g c plain ok =
    let a = print_accessor (accessor_says c.in-Compares.accessor) in
    let d = print_compared c.in-Compares.comparison (literal_says c.in-Compares.literal) in
    let one = c.write_word-in-Compares.ensures plain (search rules) in
    let two = c.write_accessor-in-Compares.ensures one.plain (search rules) in
    let three = c.write_compared.ensures two.plain (search rules) in
    let four = c.write_word-in-Compares-2.ensures three.plain ok in
    rw c.in-Compares.is (then_writes _ (91 ∷ a ++ d) (93 ∷ []) (then_writes _ (91 ∷ a) d (then_writes _ (91 ∷ []) a one two) three) four)
