use Rattle.kdl_layout.proofs.Common.{sym, ◌∙◌, Some, None, chars, held, InReturn, Open}
use Rattle.kdl_layout.proofs.Lacking.SpaceEnds.{spaces_start, spaces_on, not_spaces, all_spaces}
use Rattle.kdl_layout.proofs.Listing.Starts.{no_chars, some_chars}
use Rattle.kdl_layout.proofs.spaces.only_spaces.Goals as goal

pub spaces-init : goal.spaces-init
spaces-init c = (c.utf8.text, spaces_start (chars c.args.text.now) (held c.args.items.now))

pub spaces-smaller : goal.spaces-smaller
spaces-smaller c = rw c.same-rest.ensures ((rw (c.in-Some-Before.is, c.in-Some-Before.field-0-is) at c.in_ok-following.ensures) (chars c.spaces.rest.now) c.in_ok-first.ensures).1.1

pub spaces-preserved : goal.spaces-preserved
spaces-preserved c = (
  c.same-rest.utf8,
  spaces_on (chars c.args.text.now) (chars c.spaces.rest.now) (chars c.same-rest.result.now) c.in-Some-Before.following c.spaces.invariant.1
      ((rw (c.in-Some-Before.is, c.in-Some-Before.field-0-is) at c.in_ok-following.ensures) (chars c.spaces.rest.now) c.in_ok-first.ensures) c.same-rest.ensures,
)

pub returns-in-Some-InReturn : goal.returns-in-Some-InReturn
returns-in-Some-InReturn c =
    not_spaces (chars c.args.text.now) (chars c.spaces.rest.now) (Some InReturn) c.spaces.invariant.1 (some_chars c.spaces.rest.now c.spaces.invariant.0 (sym c.is_empty.ensures ∙ c.spaces-test.true)) (λ r. λ e. cc)
    ((rw (c.in-Some-InReturn.is, c.in-Some-InReturn.field-0-is) at c.in_ok-following.ensures) (chars c.spaces.rest.now) c.in_ok-first.ensures)

pub returns-in-Some-Open : goal.returns-in-Some-Open
returns-in-Some-Open c =
    not_spaces (chars c.args.text.now) (chars c.spaces.rest.now) (Some Open) c.spaces.invariant.1 (some_chars c.spaces.rest.now c.spaces.invariant.0 (sym c.is_empty.ensures ∙ c.spaces-test.true)) (λ r. λ e. cc)
    ((rw (c.in-Some-Open.is, c.in-Some-Open.field-0-is) at c.in_ok-following.ensures) (chars c.spaces.rest.now) c.in_ok-first.ensures)

pub returns-in-None : goal.returns-in-None
returns-in-None c =
    not_spaces (chars c.args.text.now) (chars c.spaces.rest.now) None c.spaces.invariant.1 (some_chars c.spaces.rest.now c.spaces.invariant.0 (sym c.is_empty.ensures ∙ c.spaces-test.true)) (λ r. λ e. cc)
    ((rw c.in-None.is at c.in_ok-following.ensures) (chars c.spaces.rest.now) c.in_ok-first.ensures)

pub returns : goal.returns
returns c = all_spaces (chars c.args.text.now) (chars c.spaces.rest.now) c.spaces.invariant.1 (no_chars c.spaces.rest.now (sym c.is_empty.ensures ∙ c.spaces-test.false))
