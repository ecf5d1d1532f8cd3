use Rattle.kdl_query.proofs.Exact.Parts.{cut_none}
use Rattle.kdl_query.proofs.decimal.Whole.places.Goals as goal

-- src/decimal.rt:78:5
pub returns : goal.returns
returns c = λ place h. cut_none c.args.self c.places.result place c.places.ensures.room h
