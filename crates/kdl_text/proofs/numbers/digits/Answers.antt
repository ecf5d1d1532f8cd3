use Rattle.std.proofs.Common.{sym, ◌∙◌}
use Rattle.kdl_text.specs.Numbers.{is_part}
use Rattle.kdl_text.specs.Internal.NumberReading.{radix_of}
use Rattle.kdl_text.proofs.Numeric.NumberReads.{digits_start, digits_underscore, digits_digit, digits_end, not_part, none_here}
use Rattle.kdl_text.proofs.numbers.digits.Goals as goal
use Rattle.kdl_text.proofs.numbers.digits.Goals.{then-c-ne95+in-Some-digit_of, else-c-ne95}

pub digits-init : goal.digits-init
digits-init c = rw c.take_over-here.ensures.result (digits_start _ _ _)

pub digits-preserved : goal.digits-preserved
digits-preserved c = elim c.if-c-ne95.branch [
  | then-c-ne95+in-Some-digit_of w ↦ rw w.number-is
      (digits_digit _ _ _ _ _ _ _ _ c.digits.invariant c.in-Some.ensures.result c.look.ensures.moved _ _ w.in-Some-digit_of.ensures (rw w.value.ensures.is at w.with_digit-number.ensures) c.step.ensures)
  | else-c-ne95 w ↦ rw w.number-is (digits_underscore _ _ _ _ _ _ _ _ c.digits.invariant c.in-Some.ensures.result c.look.ensures.moved w.if-c-ne95.false c.step.ensures)
]

pub returns-in_default-digit_of : goal.returns-in_default-digit_of
returns-in_default-digit_of c = digits_end _ _ _ _ _ _ c.digits.invariant c.look.ensures.moved (not_part _ _ _ c.in-Some.ensures.result c.if-c-ne95.true c.in_default-digit_of.ensures)

pub returns : goal.returns
returns c = digits_end _ _ _ _ _ _ c.digits.invariant c.look.ensures.moved (none_here (is_part (radix_of c.args.radix)) _ (sym c.in_default.is ∙ c.look.ensures.result))
