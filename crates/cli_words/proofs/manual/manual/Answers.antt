use Rattle.std.proofs.Common.{inr, lit<, refl}
use Rattle.cli_words.proofs.Written.{on_words}
use Rattle.cli_words.proofs.manual.manual.Goals as goal

pub returns : goal.returns
returns c = on_words _ _ c.write.result c.words.result.now (refl, refl, ((1, lit< tt, refl), (1, lit< tt, refl), (_, (5, lit< tt, refl), (3, lit< tt, refl)), (_, _, (_, (5, lit< tt, refl), (1, lit< tt, refl))), inr (_, _, (_, (5, lit< tt, refl), (5, lit< tt, refl))))) c.words.ensures c.write.ensures
