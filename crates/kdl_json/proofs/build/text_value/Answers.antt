-- The value of a text.
use Rattle.std.specs.Str.{chars}
use Rattle.std.proofs.lemmas.Str.{encodes-chars}
use Rattle.kdl_json.proofs.build.text_value.Goals as goal

pub returns : goal.returns
returns c = record { characters = chars c.args.text.now; is = c.in_ok-from_text.ensures; bytes = encodes-chars c.args.text.now c.utf8.text }
