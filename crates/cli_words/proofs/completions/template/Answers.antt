use Rattle.std.proofs.Common.{ap, inl, lit<, refl, sym}
use Rattle.cli_words.specs.Template.{title}
use Rattle.cli_words.proofs.completions.template.Goals as goal

pub returns-in-Bash : goal.returns-in-Bash
returns-in-Bash c = (ap title (sym c.in-Bash.is), refl, ((0, lit< tt, refl), (1, lit< tt, refl), (_, (3, lit< tt, refl), (2, lit< tt, refl)), (_, _, (_, (3, lit< tt, refl), (0, lit< tt, refl))), inl (_, (_, (5, lit< tt, refl), (5, lit< tt, refl)))))

pub returns-in-Fish : goal.returns-in-Fish
returns-in-Fish c = (ap title (sym c.in-Fish.is), refl, ((1, lit< tt, refl), (1, lit< tt, refl), (_, (3, lit< tt, refl), (3, lit< tt, refl)), (_, _, (_, (3, lit< tt, refl), (4, lit< tt, refl))), inl (_, (_, (3, lit< tt, refl), (5, lit< tt, refl)))))

pub returns-in-Zsh : goal.returns-in-Zsh
returns-in-Zsh c = (ap title (sym c.in-Zsh.is), refl, ((1, lit< tt, refl), (1, lit< tt, refl), (_, (3, lit< tt, refl), (3, lit< tt, refl)), (_, _, (_, (3, lit< tt, refl), (0, lit< tt, refl))), inl (_, (_, (3, lit< tt, refl), (7, lit< tt, refl)))))
