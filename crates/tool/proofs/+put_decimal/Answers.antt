use Rattle.std.proofs.Common.{◌<◌, length, sym, arith}
use Rattle.tool.proofs.DecimalDigits.{one_long, one_put, next_long, next_put}
use Rattle.tool.proofs.+put_decimal.Goals as goal

pub bounds-buffer-0 : goal.bounds-buffer-0
bounds-buffer-0 t c = omega (arith, c.requires, one_long c.args.number c.if-number-lt10.true)

pub returns-then-number-lt10-clause-count : goal.returns-then-number-lt10-clause-count
returns-then-number-lt10-clause-count t c = sym (one_long c.args.number c.if-number-lt10.true)

pub returns-then-number-lt10-clause-digits : goal.returns-then-number-lt10-clause-digits
returns-then-number-lt10-clause-digits t c =
    one_put c.args.number c.args.buffer.now c.if-number-lt10.true (omega (arith, c.requires, one_long c.args.number c.if-number-lt10.true))

pub put_decimal-count-requires : goal.put_decimal-count-requires
put_decimal-count-requires t c =
    (omega arith, omega (arith, c.requires, next_long c.args.number c.if-number-lt10.false (omega arith)))

pub bounds-buffer-count : goal.bounds-buffer-count
bounds-buffer-count t c =
    omega (arith, c.requires, next_long c.args.number c.if-number-lt10.false (omega arith), c.put_decimal-count.ensures.count)

pub returns-clause-count : goal.returns-clause-count
returns-clause-count t c =
    omega (arith, next_long c.args.number c.if-number-lt10.false (omega arith), c.put_decimal-count.ensures.count)

pub returns-clause-digits : goal.returns-clause-digits
returns-clause-digits t c =
    let fits = next_long c.args.number c.if-number-lt10.false (omega arith) in
    let room : c.put_decimal-count.result < length c.put_decimal-count.new.buffer = omega (arith, c.requires, fits, c.put_decimal-count.ensures.count) in
    next_put c.args.number c.put_decimal-count.result c.put_decimal-count.new.buffer c.if-number-lt10.false (omega arith) room c.put_decimal-count.ensures.digits
