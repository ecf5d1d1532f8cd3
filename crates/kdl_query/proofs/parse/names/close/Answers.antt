use Rattle.kdl_query.proofs.Reading.{closes}
use Rattle.kdl_query.proofs.parse.names.close.Goals as goal

pub returns : goal.returns
returns c = closes _ _ _ _ _ c.skip_spaces.ensures.spaces c.skip_spaces.ensures.moves c.expect.ensures
