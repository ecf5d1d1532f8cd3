use Rattle.std.proofs.Common.{ap, ◌∙◌, ◌++◌, arith}
use Rattle.kdl_text.specs.Chars.{times}
use Rattle.kdl_text.proofs.RawStrings.ClosingPlaces.{times_next}
use Rattle.kdl_text.proofs.Looking.SliceCost.{past_then, past_more, past_took, past_look}
use Rattle.kdl_text.proofs.strings.raw.eat_signs.Goals as goal

pub signs-preserved : goal.signs-preserved
signs-preserved c =
    let (text, few, past) = c.signs.invariant in
    let took = c.if-not-eat.ensures in (
      text ∙ ap (λ z. times c.signs.count 35 ++ z) took.0 ∙ times_next c.signs.count 35 c.eat.new.self.rest,
      omega arith,
      past_then past (past_took took),
    )

pub returns-then-not-eat : goal.returns-then-not-eat
returns-then-not-eat c =
    let (text, few, past) = c.signs.invariant in
    let (none, look) = c.if-not-eat.ensures in
    let rest = ap (λ h. h.rest) look in
    record { reads = record { text = rw rest text; few = few; stops = λ l. rw rest none }; past = past_then past (past_look look) }

pub returns : goal.returns
returns c =
    let (text, few, past) = c.signs.invariant in
    record { reads = record { text = text; few = few; stops = λ l. absurd (omega (arith, l)) }; past = past_more (omega arith) past }
