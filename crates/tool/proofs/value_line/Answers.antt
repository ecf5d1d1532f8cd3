use Rattle.std.proofs.Common.{[], ◌∷◌, ◌++◌, Some, ◌∙◌, ap}
use lib.Utf8.{encode}
use Rattle.tool.specs.Commands.{value_line}
use Rattle.tool.proofs.value_line.Goals as goal

pub returns-in_default : goal.returns-in_default
returns-in_default c = ap value_line c.in_default.ensures.said

pub returns : goal.returns
unfolding encode
returns c =
    ap Some (c.in_ok-push.ensures.bytes ∙ ap (λ t. t ++ (10 ∷ [])) c.in_ok-line.ensures.ok)
    ∙ ap value_line c.in-Some.ensures.said
