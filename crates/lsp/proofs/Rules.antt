-- The lemmas that the functions of a file cite.
use Rattle.lsp.proofs.Sending.{log_is_notice, logs_last, logs_of_alone, one_notice, reply_alone, reply_last}

-- for src/message.rt
pub ruleset sending = (log_is_notice, logs_last, logs_of_alone, one_notice, reply_alone, reply_last)
