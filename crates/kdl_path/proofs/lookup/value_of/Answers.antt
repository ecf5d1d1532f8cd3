use Rattle.std.proofs.Common.{Some, ap, option_map, ◌∙◌}
use Rattle.kdl.specs.Words.{EntryData, node_says}
use Rattle.kdl_path.proofs.Places.{value_of_entry}
use Rattle.kdl_path.proofs.lookup.value_of.Goals as goal

pub returns-in-Some : goal.returns-in-Some
returns-in-Some c =
    ap Some c.value.ensures ∙ ap (option_map (λ (e : EntryData). e.value)) c.in-Some.ensures ∙ value_of_entry c.args.target.now (node_says c.args.node.now)

pub returns-in-None : goal.returns-in-None
returns-in-None c = ap (option_map (λ (e : EntryData). e.value)) c.in-None.ensures ∙ value_of_entry c.args.target.now (node_says c.args.node.now)
