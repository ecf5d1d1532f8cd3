use Rattle.std.proofs.Common.{rules}
use Rattle.std.proofs.lemmas.Iterator.{YieldsList-from_map, YieldsList-from_slice}
use Rattle.std.proofs.lemmas.Iterator.Adapters.{items_from_extend}
use Rattle.std.proofs.lemmas.Iterator.Consumers.{YieldsList-at}
use Rattle.kdl_query.specs.Internal.Parts.{entered_part}
use Rattle.kdl_query.proofs.part.enter.Goals as goal

pub returns : goal.returns
returns c =
    let h = items_from_extend c.extend.result c.extend.ensures.ran (YieldsList-from_map _ entered_part (YieldsList-at c.map.ensures.source (YieldsList-from_slice _ c.iter.ensures.rest)) c.map.ensures.closure (λ x r q k. search rules)) in
    search rules
