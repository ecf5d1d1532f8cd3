use Rattle.std.proofs.Common.{length, string_bytes}
use Rattle.std.specs.Str.{chars}
use Rattle.kdl_text.proofs.Quoted.BodyLoop.{Reading}
use Rattle.kdl_text.proofs.strings.quoted_body.Given as goal

abbrev pub invariant-units : goal.invariant-units
invariant-units l = Reading l.fn.cursor l.cursor (chars (string_bytes l.out))

abbrev pub decreases-units : goal.decreases-units
decreases-units l = length l.cursor.rest
