use Rattle.std.proofs.Common.{◌∙◌, ap, map}
use Rattle.kdl_query.specs.declared.walk.Level.{Level}
use Rattle.kdl_query.proofs.Levels.{path_mapped}
use Rattle.kdl_query.proofs.walk.Walk.path.Goals as goal

pub returns-clause-path : goal.returns-clause-path
returns-clause-path c = c.in_ok-path.ensures ∙ ap (map (λ (l : Level). l.current)) c.deref.ensures.value ∙ path_mapped c.args.self.now.levels.items
