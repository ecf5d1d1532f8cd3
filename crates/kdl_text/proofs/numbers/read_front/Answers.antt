use Rattle.std.proofs.Common.{refl}
use Rattle.kdl_text.proofs.Looking.SliceCost.{past_then}
use Rattle.kdl_text.proofs.Numeric.DecimalReads.{no_front}
use Rattle.kdl_text.proofs.numbers.read_front.Goals as goal

pub returns-in-Some : goal.returns-in-Some
returns-in-Some c =
    let s = c.read_sign-negative.ensures in
    let b = c.eat_base_prefix-radix.ensures in
    let i = c.in-Some.ensures in
    record { reads = record { after_sign = _; after_base = _; digits = i.reads.0; sign = s.reads; base = b.reads; int = i.reads.1; counts = i.reads.2 }; past = past_then s.past (past_then b.past i.past) }

pub returns-in-None : goal.returns-in-None
returns-in-None c =
    let s = c.read_sign-negative.ensures in
    let b = c.eat_base_prefix-radix.ensures in
    let i = c.in-None.ensures in
    record { reads = record { none = no_front _ _ _ _ _ _ s.reads b.reads refl i.reads.1; fault = (_, _, s.reads, rw i.reads.0 b.reads, rw i.reads.0 i.reads.1) }; past = past_then s.past (past_then b.past i.past) }
