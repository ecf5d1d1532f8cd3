use Rattle.std.proofs.Common.{◌≡◌, ◌-◌, ◌++◌, ap, ◌∙◌, arith}
use Rattle.kdl_text.specs.Chars.{times}
use Rattle.kdl_text.proofs.Looking.Parts.{part_same}
use Rattle.kdl_text.proofs.RawStrings.LinesLoop.{no_more_after, one_after, one_look}
use Rattle.kdl_text.proofs.strings.raw.after_quotes.Goals as goal

pub loop-init : goal.loop-init
loop-init c = record {
  following = λ t e.
      (let all : c.args.count ≡ c.args.count - 0 = omega arith in
      ap (λ z. z.rest) c.go_to.ensures ∙ e ∙ ap (λ k. times k 34 ++ t) all);
  most = omega (arith, ap (λ z. z.steps) c.go_to.ensures);
  counts = omega (arith, ap (λ z. z.steps) c.go_to.ensures);
  same = ap (λ z. z.text) c.go_to.ensures;
}

pub loop-preserved : goal.loop-preserved
loop-preserved c =
    let i = c.loop.invariant in
    let (most, counts, same) = one_look 34 _ _ _ c.eat.ensures in
    record {
      following = λ t e. one_after c.args.count c.loop.counter _ _ _ t c.loop-test.true c.eat.ensures (i.following t e);
      most = omega (arith, i.most, most);
      counts = omega (arith, i.counts, counts);
      same = same ∙ i.same;
    }

pub returns : goal.returns
returns c =
    let i = c.loop.invariant in
    let back = ap (λ z. z.steps) c.go_to-2.ensures in
    record {
      following = λ t e. c.checkpoint-following.ensures.rest ∙ no_more_after c.args.count c.loop.counter _ t c.loop-test.false (i.following t e);
      returned = record {
        rest = ap (λ z. z.rest) c.go_to-2.ensures ∙ c.checkpoint-here.ensures.rest;
        at = ap (λ z. z.at) c.go_to-2.ensures ∙ c.checkpoint-here.ensures.at;
        most = omega (arith, i.most, back);
        counts = omega (arith, i.counts, back);
        same = ap (λ z. z.text) c.go_to-2.ensures ∙ i.same;
      };
    }

pub go_to-requires-2 : goal.go_to-requires-2
go_to-requires-2 c = part_same c.checkpoint-here.ensures.part c.loop.invariant.same
