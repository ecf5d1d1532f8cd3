use Rattle.kdl_parts.proofs.Common.{◌*◌, replicate, HasWritten, IsPlainFormatter, encode_utf8_all}
use Rattle.kdl_parts.proofs.print.write_spaces.Given as goal

abbrev pub invariant-loop-level : goal.invariant-loop-level
invariant-loop-level g l =
    IsPlainFormatter l.initial.f → HasWritten g.W.Write.write_str_gives l.initial.f (encode_utf8_all (replicate (4 * l._level) 32)) l.f
