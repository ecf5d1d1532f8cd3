use Rattle.std.proofs.Common.{◌≡◌, ℕ, List, ◌++◌, length}
use Rattle.std.specs.Fmt.{HasWritten, IsPlainFormatter}
use Rattle.std.specs.Str.{chars, encode_utf8_all}
use denote.Text.{Utf8}
use denote.Shadow.{shadow}
use Rattle.kdl_value.specs.Spelled.{escaped_text}
use Rattle.kdl_value.proofs.spelled.write_escaped.Given as goal

abbrev pub invariant-runs : goal.invariant-runs
invariant-runs g l =
    shadow (Utf8 l.rest) × (done : List ℕ) × (done ++ encode_utf8_all (escaped_text (chars l.rest)) ≡ encode_utf8_all (escaped_text (chars l.fn.s)))
    × (IsPlainFormatter l.initial.f → HasWritten g.W.Write.write_str_gives l.initial.f done l.f)

abbrev pub decreases-runs : goal.decreases-runs
decreases-runs g l = length l.rest
