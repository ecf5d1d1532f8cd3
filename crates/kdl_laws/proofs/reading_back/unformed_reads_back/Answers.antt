use Rattle.kdl.proofs.ReadingBack.{unformed_reads}
use Rattle.kdl_laws.proofs.reading_back.unformed_reads_back.Goals as goal

pub returns : goal.returns
returns c = λ e u. unformed_reads e u
