use Rattle.kdl.proofs.Common.{rules, refl, sym, subst, ap, ◌≡◌, ◌∙◌, ◌<◌, map, IsUnderWay, StayAs, left, whole, settings, bare_node}
use Rattle.kdl.proofs.LayingOut.BlockSteps.{all_done}
use Rattle.kdl.proofs.LayingOut.StaysReading.{stay_same, stay_then}
use Rattle.kdl.proofs.layout.LayoutFrame.lay_out.Goals as goal

pub steps-init : goal.steps-init
steps-init c = (refl, λ level x olds u. u, λ ok level x olds u. stay_same (settings c.args.layout.now.config) (whole c.args.above.now.items c.args.self.now))

pub steps-smaller-in-Continue-1 : goal.steps-smaller-in-Continue-1
steps-smaller-in-Continue-1 c = c.in_ok-lay_out_next.ensures.goes_on.1

pub steps-preserved-in-Continue-1 : goal.steps-preserved-in-Continue-1
steps-preserved-in-Continue-1 c = (
  c.lay_out_next.ensures.kept ∙ c.steps.invariant.0,
  λ level x olds u. c.in_ok-lay_out_next.ensures.goes_on.0 level x olds (c.steps.invariant.1 level x olds u),
  λ ok level x olds u. stay_then (settings c.args.layout.now.config) (c.steps.invariant.2 ok level x olds u) (c.lay_out_next.ensures.stays ok level x olds (c.steps.invariant.1 level x olds u)),
)

pub returns-in_err-lay_out_next-clause-kept : goal.returns-in_err-lay_out_next-clause-kept
returns-in_err-lay_out_next-clause-kept c = c.lay_out_next.ensures.kept ∙ c.steps.invariant.0

pub returns-in_err-lay_out_next-clause-stays : goal.returns-in_err-lay_out_next-clause-stays
returns-in_err-lay_out_next-clause-stays c ok level x olds u =
    stay_then (settings c.args.layout.now.config) (c.steps.invariant.2 ok level x olds u) (c.lay_out_next.ensures.stays ok level x olds (c.steps.invariant.1 level x olds u))

pub steps-smaller : goal.steps-smaller
steps-smaller c =
    let above = c.pop.new.self.items in
    subst (λ z. left above c.leave.new.self < left z c.steps.self) (sym c.in-Some.ensures.items) (c.leave.ensures.goes_on (search rules) c.args.layout.now above).1

pub steps-preserved : goal.steps-preserved
steps-preserved c =
    let inner = c.steps.self in
    let above = c.pop.new.self.items in
    let before = c.in-Some.ensures.items in (
      c.leave.ensures.kept above ∙ ap (λ z. map bare_node (whole z inner)) (sym before) ∙ c.steps.invariant.0,
      λ level x olds u. (c.leave.ensures.goes_on (search rules) c.args.layout.now above).0 level x olds
          (subst (λ z. IsUnderWay c.args.layout.now level x olds z inner) before (c.steps.invariant.1 level x olds u)),
      λ ok level x olds u. stay_then (settings c.args.layout.now.config) (c.steps.invariant.2 ok level x olds u)
          (subst (λ z. StayAs (settings c.args.layout.now.config) (whole z inner) (whole above c.leave.new.self)) (sym before)
          (c.leave.ensures.stays (search rules) c.args.layout.now ok above level x olds (subst (λ z. IsUnderWay c.args.layout.now level x olds z inner) before (c.steps.invariant.1 level x olds u)))),
    )

pub returns-in_default-clause-kept : goal.returns-in_default-clause-kept
returns-in_default-clause-kept c =
    let same : c.pop.new.self.items ≡ c.steps.above.items = search rules in
    ap (λ z. map bare_node (whole z c.steps.self)) same ∙ c.steps.invariant.0

pub returns-in_default-clause-stays : goal.returns-in_default-clause-stays
returns-in_default-clause-stays c ok level x olds u =
    let same : c.steps.above.items ≡ c.pop.new.self.items = search rules in
    subst (λ z. StayAs (settings c.args.layout.now.config) (whole c.args.above.now.items c.args.self.now) (whole z c.steps.self)) same (c.steps.invariant.2 ok level x olds u)

pub returns-in_default-clause-spaced : goal.returns-in_default-clause-spaced
returns-in_default-clause-spaced c level x olds u = (
  search rules,
  all_done c.args.layout.now c.steps.above.items c.steps.self level x olds (search rules) (search rules) (c.steps.invariant.1 level x olds u),
)
