use Rattle.std.proofs.Common.{arith}
use Rattle.watched.proofs.flags.Watched.write_line.Goals as goal

pub slice_bounds-line-end : goal.slice_bounds-line-end
slice_bounds-line-end g c =
    let (fits, end) = c.in-Some.ensures.end in
    omega (arith, fits, end, c.put_pieces.auto.buffer)
