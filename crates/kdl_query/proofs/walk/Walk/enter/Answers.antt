use Rattle.std.proofs.Common.{◌≡◌, ◌-◌, length, [], ◌∷◌, ◌++◌, ◌∙◌, ap, arith, if◌then◌else◌, is_some, map, option_map, true}
use Rattle.std.specs.Prelude.{unwrap_or, slice_get}
use Rattle.std.specs.Option.{option_map_or}
use Rattle.std.proofs.lemmas.List.{length-map, map-append}
use Rattle.kdl.specs.Iterators.{nodes_in}
use Rattle.kdl.specs.Said.{said_nodes}
use Rattle.kdl.specs.Tree.{node_says}
use Rattle.kdl_query.specs.Internal.Parts.{entered_part, has_block, part_says}
use Rattle.kdl_query.specs.Internal.Visits.{LevelSays, copies, due, last_parts, level_says, levels_of}
use Rattle.kdl_query.proofs.Compiling.{entered_says}
use Rattle.kdl_query.proofs.HeldWalk.{held_entered}
use Rattle.kdl_query.proofs.Levels.{last_said}
use Rattle.kdl_query.proofs.Walking.{due_entered}
use Rattle.kdl_query.proofs.walk.Walk.enter.Goals as goal

pub returns-clause-due : goal.returns-clause-due
returns-clause-due c =
    let items : c.push.new.self.items ≡ c.args.self.now.levels.items ++ c.new-2.result ∷ [] = c.in_ok-push.ensures.items in
    let last = last_said c.args.self.now.levels.items c.in-Some-last.level.now (c.in-Some-last.ensures.value ∙ ap (λ xs. slice_get xs (length xs - 1)) c.deref.ensures.value) in
    ap (λ ls. due [] (map level_says ls)) items ∙ ap (due []) (map-append level_says c.args.self.now.levels.items (c.new-2.result ∷ []))
    ∙ due_entered (map level_says c.args.self.now.levels.items) (level_says c.in-Some-last.level.now) (level_says c.new-2.result) (node_says c.args.node.now) last (ap (λ (k : LevelSays). k.next) c.new-2.ensures.says)
    (ap (λ (k : LevelSays). k.parts) c.new-2.ensures.says ∙ ap (map part_says) c.in_ok-enter.ensures ∙ ap (λ ps. map part_says (map entered_part ps)) c.deref-2.ensures.value ∙ entered_says c.in-Some-last.level.now.parts.items)
    (ap (λ (k : LevelSays). k.nodes) c.new-2.ensures.says ∙ c.nodes.ensures.said ∙ ap (λ o. unwrap_or (option_map said_nodes o) []) c.in-Some.ensures.said)

pub returns-clause-over : goal.returns-clause-over
returns-clause-over c = λ d h at.
    held_entered d c.args.self.now.levels.items c.new-2.result _ c.args.node.now c.in_ok-push.ensures.items (c.new-2.ensures.nodes ∙ c.nodes.ensures.value ∙ ap nodes_in c.in-Some.ensures.value) h at

pub returns-clause-counted : goal.returns-clause-counted
returns-clause-counted c =
    let l = c.in-Some-last.level.now in
    let n = node_says c.args.node.now in
    let last = last_said c.args.self.now.levels.items l (c.in-Some-last.ensures.value ∙ ap (λ xs. slice_get xs (length xs - 1)) c.deref.ensures.value) in
    let parts = ap (λ o. length (option_map_or (λ (k : LevelSays). k.parts) o [])) last ∙ length-map l.parts.items part_says in
    let copied = ap length (c.in_ok-enter.ensures ∙ ap (map entered_part) c.deref-2.ensures.value) ∙ length-map l.parts.items entered_part in
    let has : true ≡ has_block n = ap is_some c.in-Some.ensures.said in
    let all = length (last_parts (levels_of c.args.self.now)) in
    let some : all ≡ copies all n = ap (λ b. if b then all else 0) has in
    omega (arith, c.saturating_add-self.ensures, c.len.ensures, c.enter.new.entered.ok.0, copied, parts, some)
