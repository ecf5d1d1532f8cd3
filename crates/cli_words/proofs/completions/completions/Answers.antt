use Rattle.cli_words.specs.Template.{title}
use Rattle.cli_words.proofs.Written.{on_words}
use Rattle.cli_words.proofs.completions.completions.Goals as goal

pub returns : goal.returns
returns c = on_words (title c.args.shell) _ c.write.result c.words.result.now c.template.ensures c.words.ensures c.write.ensures
