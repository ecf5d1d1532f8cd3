use Rattle.std.proofs.Common.{Some, sym, ap, ◌∙◌}
use Rattle.kdl_query.proofs.Reading.{quoted_unread, quoted_word, raw_unread, raw_word, after_still, still_looked}
use Rattle.kdl_query.proofs.parse.names.string.Goals as goal

pub returns-in-Ok : goal.returns-in-Ok
returns-in-Ok c = after_still _ _ _ _ _ (still_looked c.look.ensures.moved) (record { returns = quoted_word _ _ _ c.in-Ok.ensures.found; moves = c.in-Ok.ensures.moves })

pub returns-in-Err : goal.returns-in-Err
returns-in-Err c = quoted_unread _ _ _ _ (sym c.look.ensures.result ∙ c.in-Some-eq34.is ∙ ap Some c.in-Some-eq34.field-0-test) c.look.ensures.moved (λ r v q. c.string_refusal.ensures.1 (c.in-Err.ensures.only r v q)) c.in-Err.ensures.moves

pub returns-in-Ok-raw_string : goal.returns-in-Ok-raw_string
returns-in-Ok-raw_string c = after_still _ _ _ _ _ (still_looked c.look.ensures.moved) (record { returns = raw_word _ _ _ c.in-Ok-raw_string.ensures.found; moves = c.in-Ok-raw_string.ensures.moves })

pub returns-in-Err-raw_string : goal.returns-in-Err-raw_string
returns-in-Err-raw_string c = raw_unread _ _ _ _ (sym c.look.ensures.result ∙ c.in-Some-eq35.is ∙ ap Some c.in-Some-eq35.field-0-test) c.look.ensures.moved (λ r v q. c.string_refusal-in-Err-raw_string.ensures.1 (c.in-Err-raw_string.ensures.only r v q)) c.in-Err-raw_string.ensures.moves
