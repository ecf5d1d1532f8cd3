use Rattle.std.proofs.Common.{◌≡◌, ◌∷◌, ◌++◌, ◌+◌, ◌∙◌, ap, append_assoc, arith, drop, string_bytes, subst, suc, sym}
use Rattle.std.proofs.Math.Seq.{drop-cons}
use Rattle.std.proofs.lemmas.List.{append-nil, drop_all}
use Rattle.std.specs.List.{flat_map}
use Rattle.kdl.specs.Words.{document_says, said_nodes}
use Rattle.kdl_query.specs.Selects.{Path}
use Rattle.kdl_query.specs.Turns.{paths_from}
use Rattle.cli_shown.specs.Internal.Trail.{IsTrail}
use Rattle.cli_shown.specs.Nodes.{shown_at}
use Rattle.cli_shown.specs.declared.nodes.View.TheVariants.{Paths}
use Rattle.cli_shown.proofs.nodes.path_lines.Goals as goal

pub loop-turn-init : goal.loop-turn-init
loop-turn-init c =
    let f = shown_at Paths c.args.document.now in
    let ts = c.args.turns.now in
    record {
      text = ap (λ s. s ++ flat_map f (paths_from c.new-path.result.items ts)) c.new-out.ensures.bytes ∙ ap (λ p. flat_map f (paths_from p ts)) c.new-path.ensures.items;
      trail = c.new-trail.ensures c.new-path.result.items (said_nodes (document_says c.args.document.now));
    }

pub loop-turn-preserved : goal.loop-turn-preserved
loop-turn-preserved c =
    let f = shown_at Paths c.args.document.now in
    let ts = c.args.turns.now in
    let i = c.loop-turn.turn-index in
    let t = c.turn-item.result in
    let old = string_bytes c.loop-turn.out in
    let before = c.loop-turn.path.items in
    let path = c.take_turn.new.path.items in
    let next : i + 1 ≡ suc i = omega arith in
    let here : drop i ts ≡ t ∷ drop (suc i) ts = drop-cons ts i t c.loop-turn-test.true ∙ ap (λ u. u ∷ drop (suc i) ts) (sym c.turn-item.is) in
    record {
      text = ap (λ s. s ++ flat_map f (paths_from path (drop (i + 1) ts))) c.in_ok-push_line.ensures.shown
          ∙ append_assoc old (f c.deref.result.now) (flat_map f (paths_from path (drop (i + 1) ts)))
          ∙ ap (λ (p : Path). old ++ (f p ++ flat_map f (paths_from path (drop (i + 1) ts)))) c.deref.ensures.value
          ∙ ap (λ n. old ++ (f path ++ flat_map f (paths_from path (drop n ts)))) next
          ∙ ap (λ (p : Path). old ++ (f p ++ flat_map f (paths_from p (drop (suc i) ts)))) c.in_ok-take_turn.ensures.path
          ∙ ap (λ us. old ++ flat_map f (paths_from before us)) (sym here) ∙ c.loop-turn.invariant.text;
      trail = subst (λ (p : Path). IsTrail c.push_line.new.trail p (said_nodes (document_says c.args.document.now))) c.deref.ensures.value c.in_ok-push_line.ensures.trail;
    }

pub returns : goal.returns
returns c =
    let f = shown_at Paths c.args.document.now in
    let l = c.loop-turn in
    sym (append-nil (string_bytes l.out)) ∙ ap (λ us. string_bytes l.out ++ flat_map f (paths_from l.path.items us)) (sym (drop_all l.turn-index c.args.turns.now c.loop-turn-test.false)) ∙ l.invariant.text
