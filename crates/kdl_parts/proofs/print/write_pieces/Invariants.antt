use Rattle.kdl_parts.proofs.Common.{map, take, HasWritten, IsPlainFormatter, encode_utf8_all, entry_tree, print_pieces}
use Rattle.kdl_parts.proofs.print.write_pieces.Given as goal

abbrev pub invariant-loop-entry : goal.invariant-loop-entry
invariant-loop-entry g l =
    IsPlainFormatter l.fn.f → HasWritten g.W.Write.write_str_gives l.fn.f (encode_utf8_all (print_pieces (map entry_tree (take l.entry-index l.entries)))) l.f
