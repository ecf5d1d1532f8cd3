use Rattle.std.proofs.Common.{◌≡◌, ◌++◌, length, string_bytes}
use denote.Text.{Utf8}
use denote.Shadow.{shadow}
use Rattle.std.specs.Str.{chars}
use Rattle.kdl_text.specs.Numbers.{plain}
use Rattle.kdl_text.proofs.numbers.push_plain.Given as goal

abbrev pub invariant-chars : goal.invariant-chars
invariant-chars l = shadow (Utf8 l.rest) × (chars (string_bytes l.out) ++ plain (chars l.rest) ≡ chars (string_bytes l.fn.out) ++ plain (chars l.fn.text))

abbrev pub decreases-chars : goal.decreases-chars
decreases-chars l = length l.rest
