use Rattle.std.proofs.Common.{◌++◌, ap, ◌∙◌, arith}
use Rattle.kdl_text.proofs.Looking.Parts.{part_front, part_moved, part_same}
use Rattle.kdl_diagnostics.proofs.Passing.{after_same}
use Rattle.kdl_diagnostics.proofs.StringLoops.{read_once_more}
use Rattle.kdl_diagnostics.proofs.strings.fault_of_lines.Goals as goal

pub up_to-requires : goal.up_to-requires
up_to-requires c = after_same _ _ _ c.requires.before c.checkpoint.ensures.rest

pub enter-place-requires : goal.enter-place-requires
enter-place-requires c = part_front _ _ _ _ c.requires.part c.up_to.ensures

pub go_to-requires : goal.go_to-requires
go_to-requires c = part_moved (part_same c.enter-place.ensures.part (ap (λ z. z.text) c.enter-place.ensures.inside)) c.read_string-answer.ensures.moves

pub returns-clause-back : goal.returns-clause-back
returns-clause-back c =
    let inside = c.enter-place.ensures.inside in
    let read = c.read_string-answer.ensures in
    let back = c.go_to.ensures in
    record {
      rest = ap (λ z. z.rest) back ∙ c.enter-place.ensures.rest;
      at = ap (λ z. z.at) back ∙ c.enter-place.ensures.at;
      most = read_once_more c.args.start.now c.args.cursor.now _ _ _ c.enter-place.result _ (c.up_to.ensures ∙ ap (λ z. c.up_to.result ++ z) c.checkpoint.ensures.rest) inside read back;
      counts = omega (arith, ap (λ z. z.steps) inside, read.moves.counts, ap (λ z. z.steps) back);
      same = ap (λ z. z.text) back ∙ read.moves.same ∙ ap (λ z. z.text) inside;
    }
