use Rattle.std.proofs.Common.{[], List, ap, sym, ◌∙◌}
use Rattle.std.specs.List.{flat_map}
use Rattle.kdl_query.specs.Turns.{paths_from}
use Rattle.kdl_query.specs.declared.find.Turn.{Turn}
use Rattle.cli_shown.specs.Nodes.{shown_at}
use Rattle.cli_shown.specs.declared.nodes.View.TheVariants.{Paths}
use Rattle.cli_shown.proofs.Views.{paths_counted}
use Rattle.cli_shown.proofs.nodes.shown_paths.Goals as goal

pub returns : goal.returns
returns c =
    let turns = c.in_ok-turns.turns in
    record {
      paths = paths_from [] turns.items;
      selection = c.in_ok-turns.ensures.selected;
      counts = c.len.ensures ∙ turns.ok.0 ∙ sym (paths_counted [] turns.items);
      shows = c.in_ok-path_lines.ensures ∙ ap (λ (ts : List Turn). flat_map (shown_at Paths c.args.document.now) (paths_from [] ts)) c.deref.ensures.value;
    }
