use Rattle.kdl_query.proofs.Reading.{took_ok}
use Rattle.kdl_query.proofs.parse.names.expect.Goals as goal

pub returns-then-eat : goal.returns-then-eat
returns-then-eat c = took_ok _ _ _ c.if-eat.ensures
