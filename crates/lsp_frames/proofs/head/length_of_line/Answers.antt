use Rattle.std.proofs.Common.{take, codes, ◌+◌, refl, sym, ◌∙◌, ap}
use Rattle.std.proofs.lemmas.List.{take_rest}
use Rattle.std.proofs.lemmas.Str.Ascii.{trim_ascii_is}
use Rattle.lsp_frames.specs.Heads.{number, trimmed}
use Rattle.lsp_frames.proofs.Numbers.{line_of_length, line_of_other, line_without_colon, same_names}
use Rattle.lsp_frames.proofs.head.length_of_line.Goals as goal

pub returns-in_err-colon : goal.returns-in_err-colon
returns-in_err-colon c = c.from_residual.ensures ∙ line_without_colon _ (sym c.place_of.ensures.place ∙ c.in_err-colon.was)

pub returns-then-not-eq_ignore_ascii_case : goal.returns-then-not-eq_ignore_ascii_case
returns-then-not-eq_ignore_ascii_case c =
    line_of_other c.args.line.now c.in_ok-colon.colon (sym c.place_of.ensures.place ∙ c.in_ok-colon.was)
    (sym (same_names _ (take c.in_ok-colon.colon c.args.line.now) (codes "content-length") c.eq_ignore_ascii_case.ensures.test) ∙ c.if-not-eq_ignore_ascii_case.true)

pub returns : goal.returns
returns c =
    let line = c.args.line.now in
    c.number.ensures ∙ ap number (trim_ascii_is _ _ _ refl c.trim_ascii.ensures.value)
    ∙ ap (λ v. number (trimmed v)) (take_rest line (c.in_ok-colon.colon + 1))
    ∙ line_of_length line c.in_ok-colon.colon (sym c.place_of.ensures.place ∙ c.in_ok-colon.was)
    (sym (same_names _ (take c.in_ok-colon.colon line) (codes "content-length") c.eq_ignore_ascii_case.ensures.test) ∙ c.if-not-eq_ignore_ascii_case.false)
