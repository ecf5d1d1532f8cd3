use Rattle.std.proofs.Common.{refl}
use Rattle.cli_words.proofs.words.words.Goals as goal

pub returns : goal.returns
unfolding lib.Utf8.encode
returns c = refl
