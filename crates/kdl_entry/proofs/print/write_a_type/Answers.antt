use Rattle.std.proofs.Common.{rules, [], ◌∷◌, ◌++◌}
use Rattle.std.specs.Str.{chars}
use Rattle.kdl_entry.specs.Print.{print_identifier}
use Rattle.kdl_entry.specs.Tree.{identifier_tree}
use Rattle.kdl_value.proofs.Spelling.PrintedTexts.{then_writes}
use Rattle.kdl_entry.proofs.print.write_a_type.Goals as goal

pub returns : goal.returns
returns g c plain ok =
    let before = chars c.args.before.now in
    let name = print_identifier (identifier_tree c.args.ty.now) in
    let after = chars c.args.after.now in
    let one = c.write_char.ensures plain (search rules) in
    let two = c.write_text.ensures one.plain (search rules) in
    let three = c.fmt.ensures.writes two.plain (search rules) in
    let four = c.write_text-2.ensures three.plain (search rules) in
    let five = c.write_char-2.ensures four.plain (search rules) in
    let begun = then_writes _ (40 ∷ []) before one two in
    let named = then_writes _ (40 ∷ before) name begun three in
    then_writes _ (40 ∷ before ++ name ++ after) (41 ∷ []) (then_writes _ (40 ∷ before ++ name) after named four) five
