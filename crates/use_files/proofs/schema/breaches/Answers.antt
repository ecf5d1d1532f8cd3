use Rattle.std.proofs.Common.{rules, ◌≡◌, ◌∙◌, ap, [], ◌∷◌, ◌++◌, map}
use Rattle.std.proofs.lemmas.List.{map-append}
use Rattle.kdl.specs.Words.{nodes_of}
use Rattle.use_files.specs.Breaches.{block_of, breach_view}
use Rattle.use_files.proofs.DueBlocks.{first_due, less_due, next_due, none_due}
use Rattle.use_files.proofs.schema.breaches.Goals as goal
use Rattle.use_files.proofs.schema.breaches.Goals.{in-Some+in_ok-push, in_default}

pub loop-next-init : goal.loop-next-init
loop-next-init c =
    let found = ap (map breach_view) c.new-found.ensures.items in
    elim c.match-first.branch [
      | in-Some+in_ok-push w ↦ (let due : map block_of c.match-first.due.items ≡ record { nodes = nodes_of c.args.document.now; above = w.in-Some.above.now } ∷ [] = search rules in
          first_due _ w.in-Some.above.now _ _ _ w.in-Some.ensures.value found due)
      | in_default w ↦ (let due : map block_of c.match-first.due.items ≡ [] = search rules in none_due _ _ _ _ w.in_default.ensures.value found due)
    ]

pub loop-next-smaller : goal.loop-next-smaller
loop-next-smaller c =
    let due : map block_of c.loop-next.due.items ≡ map block_of c.pop.new.self.items ++ (block_of c.in-Some-pop.next ∷ []) = ap (map block_of) c.in-Some-pop.ensures.items ∙ map-append block_of c.pop.new.self.items (c.in-Some-pop.next ∷ []) in
    less_due _ _ _ _ _ due c.in_ok-check_nodes.ensures.due

pub loop-next-preserved : goal.loop-next-preserved
loop-next-preserved c =
    let due : map block_of c.loop-next.due.items ≡ map block_of c.pop.new.self.items ++ (block_of c.in-Some-pop.next ∷ []) = ap (map block_of) c.in-Some-pop.ensures.items ∙ map-append block_of c.pop.new.self.items (c.in-Some-pop.next ∷ []) in
    next_due _ _ _ _ _ _ _ _ due c.in_ok-check_nodes.ensures.found c.in_ok-check_nodes.ensures.due c.loop-next.invariant
