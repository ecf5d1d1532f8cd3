use Rattle.std.proofs.Common.{sym, ◌∙◌, ap, drop}
use Rattle.std.specs.Option.{is_some}
use Rattle.std.proofs.lemmas.List.{drop-drop}
use Rattle.lsp_frames.specs.Heads.{first_length, length_of_line, lines}
use Rattle.lsp_frames.proofs.Lines.{first_misses}
use Rattle.lsp_frames.proofs.head.length_in.Goals as goal

pub loop-end-preserved : goal.loop-end-preserved
loop-end-preserved c =
    let line = c.length_of_line-length.ensures ∙ ap length_of_line c.split_at.ensures.front in
    let rest = c.split_at-in-Some.ensures.back ∙ ap (drop 2) c.split_at.ensures.back ∙ drop-drop 2 c.in-Some.end c.loop-end.rest.now in
    ap (λ t. first_length (lines t)) rest
    ∙ first_misses _ _ (sym c.in-Some.ensures.place) (ap is_some (sym line) ∙ sym c.is_some.ensures ∙ c.if-is_some.false)
    ∙ c.loop-end.invariant
