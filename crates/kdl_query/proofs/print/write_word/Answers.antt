use Rattle.std.proofs.Common.{sym}
use Rattle.std.proofs.Output.{has_written_of_eq}
use Rattle.std.proofs.lemmas.Str.{encodes-IsAscii}
use Rattle.kdl_value.proofs.Spelling.SpellingBytes.{IsAscii-from_test}
use Rattle.kdl_query.proofs.print.write_word.Goals as goal

pub returns : goal.returns
returns g c plain ok =
    has_written_of_eq _ _ _ _ _ (sym (encodes-IsAscii c.args.word.now (IsAscii-from_test _ c.requires))) (c.write_str.ensures.writes plain ok)
