use Rattle.std.proofs.Common.{rules, sym, arith}
use Rattle.std.proofs.Output.{has_written_of_eq}
use Rattle.std.proofs.lemmas.Fmt.{IsAscii-decimal}
use Rattle.std.proofs.lemmas.Str.{encodes-IsAscii}
use Rattle.std.specs.Fmt.{decimal}
use Rattle.kdl_query.proofs.print.write_number.Goals as goal

pub returns : goal.returns
returns g c plain ok =
    let n = c.args.number in
    has_written_of_eq _ _ _ _ _ (sym (encodes-IsAscii (decimal n) (IsAscii-decimal n (omega (arith, c.ranges.number))))) (search rules)
