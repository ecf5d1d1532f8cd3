use Rattle.kdl_diagnostics.proofs.NotedSpans.{keeps_if}
use Rattle.kdl_diagnostics.proofs.state.Progress.take.Goals as goal

pub returns-in_err-note_token : goal.returns-in_err-note_token
returns-in_err-note_token c = keeps_if (λ text s. (s.start, s.end)) c.note_token.ensures.keeps

pub returns : goal.returns
returns c = keeps_if (λ text s. (s.start, s.end)) c.note_token.ensures.keeps
