use Rattle.std.proofs.Common.{rules}
use Rattle.kdl_value.proofs.Spelling.PrintedTexts.{no_chars, then_writes}
use Rattle.kdl_entry.proofs.entry.KdlEntryDisplay.fmt.Goals as goal

pub returns-in_ok-write_text-in-Some-3-clause-writes : goal.returns-in_ok-write_text-in-Some-3-clause-writes
returns-in_ok-write_text-in-Some-3-clause-writes g c plain ok =
    let one = rw c.as_str.ensures.value at (c.write_text.ensures plain (search rules)) in
    let two = rw (c.as_str-in-Some.ensures.value, c.as_str-in-Some-2.ensures.value) at (c.write_key.ensures one.plain (search rules)) in
    let three = rw (c.as_str-in-Some-3.ensures.value, c.as_str-in-Some-4.ensures.value) at (c.write_type.ensures two.plain (search rules)) in
    let four = rw c.as_str-in-Some-5.ensures.value at (c.write_text-in-Some.ensures three.plain (search rules)) in
    let five = rw c.as_str-in-Some-6.ensures.value at (c.write_text-in-Some-2.ensures four.plain (search rules)) in
    let six = rw c.as_str-in-Some-7.ensures.value at (c.write_text-in-Some-3.ensures five.plain ok) in
    rw c.in-Some.is (then_writes _ _ _ (then_writes _ _ _ (then_writes _ _ _ (then_writes _ _ _ (then_writes _ _ _ one two) three) four) five) six)

pub returns-in_ok-write_type-in-None-clause-writes : goal.returns-in_ok-write_type-in-None-clause-writes
returns-in_ok-write_type-in-None-clause-writes g c plain ok =
    let one = simp no_chars at (c.write_key-in-None.ensures plain (search rules)) in
    let two = simp no_chars at (c.write_type-in-None.ensures one.plain (search rules)) in
    let three = c.fmt.ensures.writes two.plain ok in
    rw c.in-None.is (then_writes _ _ _ (then_writes _ _ _ one two) three)
