use Rattle.std.proofs.Common.{◌≡◌, ◌-◌, ◌++◌, ◌≤◌}
use Rattle.kdl_text.specs.Chars.{times}
use Rattle.kdl_text.specs.Internal.Reading.{Past}
use Rattle.kdl_text.proofs.strings.raw.eat_signs.Given as goal

abbrev pub invariant-signs : goal.invariant-signs
invariant-signs l = (l.fn.cursor.rest ≡ times l.count 35 ++ l.cursor.rest) × (l.count ≤ l.most) × Past 1 0 l.fn.cursor l.cursor

abbrev pub decreases-signs : goal.decreases-signs
decreases-signs l = l.most - l.count
