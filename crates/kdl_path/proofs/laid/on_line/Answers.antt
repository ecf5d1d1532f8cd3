use Rattle.std.proofs.Common.{◌++◌, ◌∷◌, [], ◌∙◌, ap}
use Rattle.std.specs.Str.{chars}
use Rattle.kdl.proofs.Putting.NodeEnds.{empty_string}
use Rattle.kdl_text.specs.Chars.{Text}
use Rattle.kdl_path.proofs.laid.on_line.Goals as goal

pub returns : goal.returns
returns c = c.in_ok-push_text-2.ensures ∙ ap (λ (t : Text). t ++ chars c.args.text.now) (c.in_ok-push_text.ensures ∙ ap (λ (t : Text). t ++ chars (10 ∷ [])) (empty_string c.new-out.result c.new-out.ensures.bytes))
