use Rattle.std.proofs.Common.{◌∙◌, Some, ap, map, sym}
use Rattle.std.proofs.lemmas.List.{length-map}
use Rattle.kdl_query.specs.Held.{held_at}
use Rattle.cli_shown.proofs.Views.{as_many}
use Rattle.cli_shown.proofs.nodes.shown_nodes.Goals as goal

pub returns : goal.returns
returns c =
    let d = c.args.document.now in
    let nodes = c.in_ok-nodes.nodes in
    let held = c.in_ok-nodes.ensures.held in
    record {
      paths = held.paths;
      selection = held.selection;
      counts = c.len.ensures ∙ nodes.ok.0 ∙ sym (length-map nodes.items (λ n. n.now)) ∙ as_many (λ p. held_at p d) held.paths (map (λ n. n.now) nodes.items) held.nodes;
      shows = c.in_ok-shown_of.ensures d held.paths (held.nodes ∙ ap (λ ns. map Some (map (λ n. n.now) ns)) (sym c.deref.ensures.value));
    }
