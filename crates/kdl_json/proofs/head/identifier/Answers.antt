-- A string as an identifier.
use Rattle.kdl_json.specs.Reading.{left}
use Rattle.kdl_json.proofs.Identifiers.{reads_as, sounds_as}
use Rattle.kdl_json.proofs.head.identifier.Goals as goal

pub returns-in_err-text-clause-reads : goal.returns-in_err-text-clause-reads
returns-in_err-text-clause-reads c = λ s rest e. absurd (c.in_err-text.ensures.1 _ _ e)

pub returns-clause-sound : goal.returns-clause-sound
returns-clause-sound c = sounds_as c.identifier_of.result c.in_ok-text.text.now (left c.args.source.now) (left c.string.new.self) c.in_ok-text.ensures c.identifier_of.ensures

pub returns-clause-reads : goal.returns-clause-reads
returns-clause-reads c = λ s rest e. reads_as c.identifier_of.result c.in_ok-text.text.now s (left c.args.source.now) (left c.string.new.self) rest c.in_ok-text.ensures e c.identifier_of.ensures
