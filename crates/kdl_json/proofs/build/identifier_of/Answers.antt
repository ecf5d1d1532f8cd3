-- The text of an identifier.
use Rattle.std.proofs.Common.{ap, ◌∙◌}
use Rattle.std.specs.Str.{encode_utf8_all}
use Rattle.std.proofs.lemmas.Str.{encodes-chars}
use Rattle.kdl_entry.specs.Tree.{Identifier}
use Rattle.kdl_json.proofs.build.identifier_of.Goals as goal

pub returns : goal.returns
returns c = ap (λ (j : Identifier). encode_utf8_all j.value) c.in_ok-from_text.ensures ∙ encodes-chars c.args.text.now c.utf8.text
