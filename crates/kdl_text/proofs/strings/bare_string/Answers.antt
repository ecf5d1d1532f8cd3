use Rattle.std.proofs.Common.{sym, ◌∙◌}
use Rattle.kdl_text.proofs.Looking.MovesJoin.{moves_then, moves_stayed}
use Rattle.kdl_text.proofs.Quoted.BareReads.{past_found, past_only, past_none, past_cost, past_run}
use Rattle.kdl_text.proofs.strings.bare_string.Goals as goal

pub returns-then-is_bare-clause-found : goal.returns-then-is_bare-clause-found
returns-then-is_bare-clause-found c =
    let run = c.run_of-word.ensures in
    let form = c.has_bare_form-is_bare.ensures in
    rw form.looked.2.rest (past_found _ _ _ run.reads.run run.reads.text (sym form.result ∙ c.if-is_bare.true))

pub returns-then-is_bare-clause-only : goal.returns-then-is_bare-clause-only
returns-then-is_bare-clause-only c =
    let run = c.run_of-word.ensures in
    rw c.has_bare_form-is_bare.ensures.looked.2.rest (past_only _ _ _ run.reads.run run.reads.text)

pub returns-then-is_bare-clause-run : goal.returns-then-is_bare-clause-run
returns-then-is_bare-clause-run c = past_run _ c.run_of-word.new.cursor c.has_bare_form-is_bare.new.cursor c.run_of-word.ensures.reads.run c.has_bare_form-is_bare.ensures.looked

pub returns-then-is_bare-clause-moves : goal.returns-then-is_bare-clause-moves
returns-then-is_bare-clause-moves c = moves_then c.run_of-word.ensures.past.moves (moves_stayed c.has_bare_form-is_bare.ensures.looked.2)

pub returns-else-is_bare-clause-only : goal.returns-else-is_bare-clause-only
returns-else-is_bare-clause-only c =
    let run = c.run_of-word.ensures in
    past_none _ _ _ run.reads.run run.reads.text (sym c.has_bare_form-is_bare.ensures.result ∙ c.if-is_bare.false)

pub returns-else-is_bare-clause-run : goal.returns-else-is_bare-clause-run
returns-else-is_bare-clause-run c = past_run _ c.run_of-word.new.cursor c.has_bare_form-is_bare.new.cursor c.run_of-word.ensures.reads.run c.has_bare_form-is_bare.ensures.looked

pub returns-else-is_bare-clause-moves : goal.returns-else-is_bare-clause-moves
returns-else-is_bare-clause-moves c = moves_then c.run_of-word.ensures.past.moves (moves_stayed c.has_bare_form-is_bare.ensures.looked.2)

pub returns-then-is_bare-clause-cost : goal.returns-then-is_bare-clause-cost
returns-then-is_bare-clause-cost c =
    let run = c.run_of-word.ensures in
    let form = c.has_bare_form-is_bare.ensures in
    past_cost _ _ _ _ run.reads.text (sym form.result ∙ c.if-is_bare.true) run.past.costs form.looked
