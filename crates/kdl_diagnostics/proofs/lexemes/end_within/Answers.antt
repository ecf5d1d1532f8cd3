use Rattle.std.proofs.Common.{◌++◌, ap, ◌∙◌, arith}
use Rattle.kdl_text.specs.Spans.{bytes}
use Rattle.kdl_text.proofs.Looking.MovesJoin.{bytes-append}
use Rattle.kdl_text.proofs.Looking.Parts.{part_front, part_moved, part_same}
use Rattle.kdl_diagnostics.proofs.Passing.{after_same}
use Rattle.kdl_diagnostics.proofs.lexemes.end_within.Goals as goal

pub up_to-requires : goal.up_to-requires
up_to-requires c = after_same _ _ _ c.requires.before c.checkpoint.ensures.rest

pub enter-here-requires : goal.enter-here-requires
enter-here-requires c = part_front _ _ _ _ c.requires.part c.up_to.ensures

pub go_to-requires : goal.go_to-requires
go_to-requires c = part_moved (part_same c.requires.part (ap (λ z. z.text) c.enter-here.ensures.inside)) c.value_end-end.ensures.reads.moves

pub go_to-requires-2 : goal.go_to-requires-2
go_to-requires-2 c =
    let inside = part_moved (part_same c.enter-here.ensures.part (ap (λ z. z.text) c.enter-here.ensures.inside)) c.value_end-end.ensures.reads.moves in
    part_moved (part_same inside (ap (λ z. z.text) c.go_to.ensures)) c.go_on-last.ensures.moves

pub returns-clause-back : goal.returns-clause-back
returns-clause-back c =
    let inside = c.enter-here.ensures.inside in
    let end = c.value_end-end.ensures in
    let from = c.go_to.ensures in
    let on = c.go_on-last.ensures in
    let back = c.go_to-2.ensures in
    record {
      rest = ap (λ z. z.rest) back ∙ c.enter-here.ensures.rest;
      at = ap (λ z. z.at) back ∙ c.enter-here.ensures.at;
      most = omega (
        arith,
        ap bytes (c.up_to.ensures ∙ ap (λ z. c.up_to.result ++ z) c.checkpoint.ensures.rest),
        bytes-append c.up_to.result c.args.cursor.now.rest,
        ap (λ z. z.steps) inside,
        ap (λ z. z.at) inside,
        ap (λ z. bytes z.rest) inside,
        end.reads.most,
        end.end.at,
        c.at.ensures,
        ap (λ z. z.steps) from,
        on.most,
        ap (λ z. z.steps) back,
      );
      counts = omega (arith, ap (λ z. z.steps) inside, end.reads.moves.counts, ap (λ z. z.steps) from, on.moves.counts, ap (λ z. z.steps) back);
      same = ap (λ z. z.text) back ∙ on.moves.same ∙ ap (λ z. z.text) from ∙ end.reads.moves.same ∙ ap (λ z. z.text) inside;
    }
