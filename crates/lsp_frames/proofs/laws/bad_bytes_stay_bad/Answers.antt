use Rattle.lsp_frames.proofs.Growing.{bad_append}
use Rattle.lsp_frames.proofs.laws.bad_bytes_stay_bad.Goals as goal

pub returns-clause-stays : goal.returns-clause-stays
returns-clause-stays c = λ bytes more h. (bad_append bytes more h).1

pub returns-clause-none : goal.returns-clause-none
returns-clause-none c = λ bytes more h. (bad_append bytes more h).0
