use Rattle.std.proofs.Common.{◌≡◌, ◌∙◌, ◌+◌, ◌++◌, ℕ, suc, List, ap, arith, length, map, string_bytes, subst, sym, take}
use Rattle.cli_shown.specs.Internal.Trail.{AreFirst, AreRanksAlong, step_texts}
use Rattle.cli_shown.proofs.Blocks.{turned, turned_steps}
use Rattle.cli_shown.proofs.Steps.{map_take}
use Rattle.cli_shown.proofs.trail.Trail.turn.Goals as goal

pub returns : goal.returns
returns c = λ p q xs h.
    let bs = c.args.self.now.blocks.items in
    let kept = c.args.kept.now in
    let next : length kept + 1 ≡ suc (length kept) = omega arith in
    let ranks : map (λ b. b.items) c.truncate.new.self.items ≡ take (suc (length kept)) (map (λ b. b.items) bs) =
    ap (map (λ b. b.items)) (c.truncate.ensures.items ∙ ap (λ n. take n bs) next) ∙ map_take (λ b. b.items) (suc (length kept)) bs in
    let ss = c.args.self.now.steps.items in
    let steps : map string_bytes c.truncate-2.new.self.items ≡ take (length kept) (map string_bytes ss) = ap (map string_bytes) c.truncate-2.ensures.items ∙ map_take string_bytes (length kept) ss in (
      subst (λ (rs : List (List ℕ)). AreRanksAlong rs (kept ++ q) xs) (sym ranks) (turned kept p q (map (λ b. b.items) bs) xs h.0),
      subst (λ (ts : List (List ℕ)). AreFirst ts (step_texts (kept ++ q) xs)) (sym steps) (turned_steps kept p q (map string_bytes ss) xs h.1),
    )
