-- The digits that are left, after those so far, write the number of all.
use Rattle.std.proofs.Common.{◌≡◌, ◌<◌, ◌^◌, drop}
use Rattle.std.specs.Str.{all_ascii_digits}
use Rattle.std.specs.Str.Parse.{digits_value, digits_value_after}
use Rattle.lsp_frames.proofs.head.number.Given as goal

abbrev pub invariant-loop-digit : goal.invariant-loop-digit
invariant-loop-digit l = record {
  value : digits_value_after 10 l.number (drop l.digit-index l.digits) ≡ digits_value 10 l.digits;
  fits : l.number < 2 ^ 64;
  digits : all_ascii_digits (drop l.digit-index l.digits) ≡ all_ascii_digits l.digits;
}
