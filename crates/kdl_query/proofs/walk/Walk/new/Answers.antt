use Rattle.std.proofs.Common.{rules, ◌≡◌, [], ◌∷◌, ◌∙◌, ap, length, map, sym}
use Rattle.std.proofs.lemmas.List.{length-map}
use Rattle.kdl.specs.Tree.{document_says}
use Rattle.kdl_query.specs.Tree.{query_says}
use Rattle.kdl_query.specs.Internal.Parts.{part_says, query_parts}
use Rattle.kdl_query.specs.Internal.Visits.{LevelSays, due, level_says}
use Rattle.kdl_query.proofs.Counting.{parts_counted}
use Rattle.kdl_query.proofs.HeldWalk.{held_new}
use Rattle.kdl_query.proofs.Walking.{due_new}
use Rattle.kdl_query.proofs.walk.Walk.new.Goals as goal

pub returns-clause-due : goal.returns-clause-due
returns-clause-due c =
    let items : c.push.new.self.items ≡ c.new.result ∷ [] = search rules in
    ap (λ ls. due [] (map level_says ls)) items
    ∙ due_new (level_says c.new.result) (document_says c.args.document.now) (query_parts (query_says c.args.query.now)) (ap (λ (k : LevelSays). k.next) c.new.ensures.says)
    (ap (λ (k : LevelSays). k.parts) c.new.ensures.says ∙ c.in_ok-parts.ensures) (ap (λ (k : LevelSays). k.nodes) c.new.ensures.says ∙ c.nodes.ensures.said)

pub returns-clause-over : goal.returns-clause-over
returns-clause-over c =
    let items : c.push.new.self.items ≡ c.new.result ∷ [] = search rules in
    held_new c.args.document.now c.new.result _ items (c.new.ensures.nodes ∙ c.nodes.ensures.value)

pub returns-clause-counted : goal.returns-clause-counted
returns-clause-counted c =
    let parts = c.in_ok-parts.parts in
    c.len-steps.ensures ∙ parts.ok.0 ∙ sym (length-map parts.items part_says) ∙ ap length c.in_ok-parts.ensures ∙ parts_counted (query_says c.args.query.now)
