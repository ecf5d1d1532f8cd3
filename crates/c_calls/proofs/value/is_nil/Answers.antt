use Rattle.c_calls.proofs.ValueSteps.{nil_bytes}
use Rattle.c_calls.proofs.value.is_nil.Goals as goal

pub returns : goal.returns
returns c = nil_bytes c.is_empty.result c.args.text.now c.utf8.text c.is_empty.ensures
