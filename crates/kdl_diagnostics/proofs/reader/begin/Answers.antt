use Rattle.std.proofs.Common.{refl, ap, ◌∙◌, arith}
use Rattle.kdl_text.proofs.Looking.Parts.{part_same}
use Rattle.kdl_diagnostics.specs.Internal.Outsets.{at_the_end, earlier}
use Rattle.kdl_diagnostics.proofs.NotedSpans.{lies_part}
use Rattle.kdl_diagnostics.proofs.Passing.{after_same}
use Rattle.kdl_diagnostics.proofs.reader.begin.Goals as goal

pub returns-then-not-matches-clause-begins : goal.returns-then-not-matches-clause-begins
returns-then-not-matches-clause-begins c = at_the_end (c.is_value_end.ensures.rest ∙ ap (λ z. z.rest) c.go_to.ensures) c.outset.ensures

pub returns-then-not-matches-clause-here : goal.returns-then-not-matches-clause-here
returns-then-not-matches-clause-here c = record {
  piece = after_same _ _ _ c.requires.place (c.is_value_end.ensures.rest ∙ ap (λ z. z.rest) c.go_to.ensures);
  same = c.is_value_end.ensures.same ∙ ap (λ z. z.text) c.go_to.ensures;
}

pub returns-then-not-matches-clause-counted : goal.returns-then-not-matches-clause-counted
returns-then-not-matches-clause-counted c =
    let s = c.is_value_end.ensures in
    record { most = omega (arith, s.most, ap (λ z. z.steps) c.go_to.ensures); counts = omega (arith, s.counts, ap (λ z. z.steps) c.go_to.ensures) }

pub returns-clause-begins : goal.returns-clause-begins
returns-clause-begins c = earlier (ap (λ z. z.rest) c.go_to-2.ensures) refl

pub returns-clause-here : goal.returns-clause-here
returns-clause-here c = record {
  piece = after_same _ _ _ c.requires.from (ap (λ z. z.rest) c.go_to-2.ensures);
  same = ap (λ z. z.text) c.go_to-2.ensures ∙ c.is_value_end.ensures.same ∙ ap (λ z. z.text) c.go_to.ensures;
}

pub returns-clause-counted : goal.returns-clause-counted
returns-clause-counted c =
    let s = c.is_value_end.ensures in
    let x = ap (λ z. z.steps) c.go_to.ensures in
    let y = ap (λ z. z.steps) c.go_to-2.ensures in
    record { most = omega (arith, s.most, x, y); counts = omega (arith, s.counts, x, y) }

pub go_to-requires : goal.go_to-requires
go_to-requires c = lies_part _ _ _ refl c.requires.place

pub go_to-requires-2 : goal.go_to-requires-2
go_to-requires-2 c = part_same (lies_part _ _ _ refl c.requires.from) (c.is_value_end.ensures.same ∙ ap (λ z. z.text) c.go_to.ensures)
