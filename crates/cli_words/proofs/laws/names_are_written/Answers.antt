use Rattle.cli_words.proofs.InOrder.{has_flags, has_names}
use Rattle.cli_words.proofs.laws.names_are_written.Goals as goal

pub returns-clause-words : goal.returns-clause-words
returns-clause-words c = has_names

pub returns-clause-flags : goal.returns-clause-flags
returns-clause-flags c = has_flags
