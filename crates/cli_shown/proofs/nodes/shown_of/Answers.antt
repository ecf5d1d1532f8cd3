use Rattle.std.proofs.Common.{map, string_bytes, sym}
use Rattle.std.proofs.lemmas.List.{length-map}
use Rattle.std.proofs.lemmas.Result.{IfOk-weaker}
use Rattle.cli_shown.proofs.Views.{lines_shown, number_shown}
use Rattle.cli_shown.proofs.nodes.shown_of.Goals as goal

pub returns-in-Count : goal.returns-in-Count
returns-in-Count c =
    let ns = map (λ n. n.now) c.args.nodes.now in
    IfOk-weaker _ _ _ (λ s h. number_shown c.args.view c.in-Count.is _ ns (sym (length-map c.args.nodes.now (λ n. n.now))) (string_bytes s) h) c.count_line.ensures

pub returns-in_default : goal.returns-in_default
returns-in_default c =
    let ns = map (λ n. n.now) c.args.nodes.now in
    IfOk-weaker _ _ _ (λ s h. lines_shown c.args.view c.requires c.in_default.not-Count ns (string_bytes s) h) c.lines.ensures
