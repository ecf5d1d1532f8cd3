use Rattle.std.proofs.Common.{sym, ◌∙◌}
use Rattle.kdl_text.proofs.Quoted.BareReads.{letter_first, past_found, past_only, past_none}
use Rattle.kdl_text.proofs.strings.letter_string.Goals as goal

pub has_letter_form-is_bare-requires-clause-first : goal.has_letter_form-is_bare-requires-clause-first
has_letter_form-is_bare-requires-clause-first c =
    let run = c.run_of-word.ensures in
    letter_first _ _ _ c.args.c run.reads.run run.reads.text c.requires.first c.requires.letter

pub returns-then-is_bare-clause-found : goal.returns-then-is_bare-clause-found
returns-then-is_bare-clause-found c =
    let run = c.run_of-word.ensures in
    past_found _ _ _ run.reads.run run.reads.text (sym c.has_letter_form-is_bare.ensures ∙ c.if-is_bare.true)

pub returns-then-is_bare-clause-only : goal.returns-then-is_bare-clause-only
returns-then-is_bare-clause-only c =
    let run = c.run_of-word.ensures in
    past_only _ _ _ run.reads.run run.reads.text

pub returns-else-is_bare-clause-only : goal.returns-else-is_bare-clause-only
returns-else-is_bare-clause-only c =
    let run = c.run_of-word.ensures in
    past_none _ _ _ run.reads.run run.reads.text (sym c.has_letter_form-is_bare.ensures ∙ c.if-is_bare.false)
