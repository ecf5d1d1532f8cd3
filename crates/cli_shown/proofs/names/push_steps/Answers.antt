use Rattle.std.proofs.Common.{◌≡◌, ◌<◌, ◌+◌, ◌++◌, ◌∷◌, ◌∙◌, List, Some, ap, arith, drop, length, map, string_bytes, subst, suc, sym, ℕ}
use Rattle.kdl.specs.Words.{node_says}
use Rattle.cli_shown.specs.Names.{path_bytes, step_bytes}
use Rattle.cli_shown.specs.Internal.Trail.{AreFirst, IsAt, step_texts, trail_ranks, trail_steps}
use Rattle.cli_shown.proofs.Blocks.{first_read, moved, next_text}
use Rattle.cli_shown.proofs.Steps.{stepped}
use Rattle.cli_shown.proofs.names.push_steps.Goals as goal

pub loop-index-preserved : goal.loop-index-preserved
loop-index-preserved c =
    let l = c.loop-index in
    let d = l.depth in
    let i = c.in-Some.index.now in
    let p = c.in-Some.below.now in
    let whole = c.args.path.now in
    let top = map node_says c.args.nodes.now in
    let xs = map node_says l.nodes.now in
    let n = c.in-Some-nth.node.now in
    let kids = c.inside-nodes.result.now in
    let all = step_texts whole top in
    let step = step_bytes i xs (node_says n) in
    let old = string_bytes l.out in
    let trail = c.reach_step.new.self in
    let split = c.in-Some.ensures.cases.0 in
    let before : IsAt (trail_ranks l.trail) d (i ∷ p) xs whole top = subst (λ (q : List ℕ). IsAt (trail_ranks l.trail) d q xs whole top) split l.invariant.at in
    let at = c.in_ok-reach.ensures.at i p whole top before in
    let more = moved (trail_ranks c.reach.new.self) d i p whole l.nodes.now kids top n at (c.in_ok-reach.ensures.known before.0) (sym c.in-Some-nth.ensures) c.inside-nodes.ensures in
    let here : drop d all ≡ step ∷ step_texts p (map node_says kids) = l.invariant.rest ∙ ap (λ (q : List ℕ). step_texts q xs) split ∙ more.1 in
    let next = next_text all (step_texts p (map node_says kids)) d step here in
    let kept = c.in_ok-reach.ensures.steps in
    let first = c.in_ok-reach_step.ensures.first all (next.0 ∙ ap Some (sym more.0)) (subst (λ (ss : List (List ℕ)). AreFirst ss all) (sym kept) l.invariant.steps) in
    let as_long = ap length kept in
    let within = l.invariant.within in
    let known : d < length (trail_steps trail) = c.in_ok-reach_step.ensures.known (omega (arith, as_long, within)) in
    let after : d + 1 ≡ suc d = omega arith in
    record {
      text = stepped i p l.nodes.now kids n old (string_bytes c.push_str.new.self) (string_bytes c.push_separator.new.out) (sym c.in-Some-nth.ensures) c.inside-nodes.ensures
          (c.in_ok-push_str.ensures.bytes ∙ ap (λ (s : List ℕ). old ++ s) (c.step.ensures ∙ first_read (trail_steps trail) all (step_texts p (map node_says kids)) d step here first known)) c.in_ok-push_separator.ensures
          ∙ ap (λ (q : List ℕ). old ++ path_bytes q xs) (sym split) ∙ l.invariant.text;
      at = subst (λ (rs : List (List ℕ)). IsAt rs (d + 1) p (map node_says kids) whole top) (sym c.in_ok-reach_step.ensures.ranks) more.2;
      steps = first;
      rest = ap (λ (m : ℕ). drop m all) after ∙ next.1;
      within = omega (arith, known);
    }
