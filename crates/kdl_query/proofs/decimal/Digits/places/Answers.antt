use Rattle.kdl_query.proofs.Exact.Parts.{text_below}
use Rattle.kdl_query.proofs.decimal.Digits.places.Goals as goal

-- src/decimal.rt:30:5
pub returns-in-Text-clause-room : goal.returns-in-Text-clause-room
returns-in-Text-clause-room c = text_below c.args.self c.in-Text.whole c.in-Text.fraction c.in-Text.is c.requires
