use Rattle.std.proofs.Common.{Some, sym, ap, ◌∙◌}
use Rattle.kdl_text.specs.Internal.Here.{first}
use Rattle.kdl_path.proofs.PathReads.{after_look, quoted_is, quoted_of, raw_is, raw_of, string_unread}
use Rattle.kdl_path.proofs.parse.read_name.Goals as goal

pub returns-in-Ok : goal.returns-in-Ok
returns-in-Ok c = after_look _ _ _ _ _ c.look.ensures.moved (record { returns = quoted_is _ _ _ c.in-Ok.ensures.found; moves = c.in-Ok.ensures.moves })

pub returns-in-Err : goal.returns-in-Err
returns-in-Err c = after_look _ _ _ _ _ c.look.ensures.moved (string_unread _ _ _ _ _ c.string_failure.ensures (c.at-at.ensures ∙ sym (ap (λ z. z.at) c.look.ensures.moved))
    (λ r v x. c.in-Err.ensures.only r v (quoted_of _ r v (ap (λ z. first z.rest) c.look.ensures.moved ∙ sym c.look.ensures.result ∙ c.in-Some-eq34.is ∙ ap Some c.in-Some-eq34.field-0-test) x)) c.in-Err.ensures.moves)

pub returns-in-Ok-raw_string : goal.returns-in-Ok-raw_string
returns-in-Ok-raw_string c = after_look _ _ _ _ _ c.look.ensures.moved (record { returns = raw_is _ _ _ c.in-Ok-raw_string.ensures.found; moves = c.in-Ok-raw_string.ensures.moves })

pub returns-in-Err-raw_string : goal.returns-in-Err-raw_string
returns-in-Err-raw_string c = after_look _ _ _ _ _ c.look.ensures.moved (string_unread _ _ _ _ _ c.string_failure-in-Err-raw_string.ensures (c.at-at.ensures ∙ sym (ap (λ z. z.at) c.look.ensures.moved))
    (λ r v x. c.in-Err-raw_string.ensures.only r v (raw_of _ r v (ap (λ z. first z.rest) c.look.ensures.moved ∙ sym c.look.ensures.result ∙ c.in-Some-eq35.is ∙ ap Some c.in-Some-eq35.field-0-test) x)) c.in-Err-raw_string.ensures.moves)
