use Rattle.std.proofs.Common.{◌≡◌, ◌∙◌, ◌++◌, ◌∷◌, [], List, Some, ap, length, map, slice_get, string_bytes, subst, sym, ℕ}
use Rattle.std.proofs.lemmas.List.{length-map, map-append}
use Rattle.kdl.specs.Words.{node_says, said_name}
use Rattle.cli_shown.specs.Internal.Trail.{AreFirst, trail_steps}
use Rattle.cli_shown.specs.Names.{index_bytes, name_bytes}
use Rattle.cli_shown.proofs.Blocks.{first_more}
use Rattle.cli_shown.proofs.trail.Trail.reach_step.Goals as goal

pub returns-in_ok-push-clause-first : goal.returns-in_ok-push-clause-first
returns-in_ok-push-clause-first c = λ all e h.
    let steps = c.args.self.now.steps in
    let ss = trail_steps c.args.self.now in
    let text = string_bytes c.in_ok-text.text in
    let long : c.args.depth ≡ length ss = c.if-depth-len.true ∙ c.len.ensures ∙ steps.ok.0 ∙ sym (length-map steps.items string_bytes) in
    let pushed : map string_bytes c.push.new.self.items ≡ ss ++ text ∷ [] = ap (map string_bytes) c.in_ok-push.ensures.items ∙ map-append string_bytes steps.items (c.in_ok-text.text ∷ []) in
    let is : text ≡ name_bytes (said_name (node_says c.args.node.now)) ++ index_bytes c.rank.result = c.in_ok-text.ensures in
    let there : slice_get all (length ss) ≡ Some text = ap (slice_get all) (sym long) ∙ e ∙ ap Some (sym (is ∙ ap (λ (k : ℕ). name_bytes (said_name (node_says c.args.node.now)) ++ index_bytes k) c.rank.ensures)) in
    subst (λ (ts : List (List ℕ)). AreFirst ts all) (sym pushed) (first_more ss all text there h)
