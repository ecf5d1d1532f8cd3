use Rattle.std.proofs.Common.{◌∙◌, List, ap, drop, length, map, refl}
use Rattle.std.proofs.lemmas.List.{length-drop, length-map}
use Rattle.kdl_query.specs.declared.find.Turn.{Turn}
use Rattle.kdl_query.specs.declared.walk.Level.{Level}
use Rattle.kdl_query.proofs.Turning.{turned_to}
use Rattle.kdl_query.proofs.walk.Walk.turn.Goals as goal

pub returns-clause-turned : goal.returns-clause-turned
returns-clause-turned c = λ p h.
    let walk = c.args.self.now in
    let t : Turn = record { kept = walk.kept; rest = c.in_ok-rest.rest } in
    turned_to p walk t refl (c.in_ok-rest.ensures ∙ ap (λ (ls : List Level). map (λ l. l.current) (drop walk.kept ls)) c.deref.ensures.value) h

pub returns-clause-short : goal.returns-clause-short
returns-clause-short c =
    let walk = c.args.self.now in
    ap length (c.in_ok-rest.ensures ∙ ap (λ (ls : List Level). map (λ l. l.current) (drop walk.kept ls)) c.deref.ensures.value) ∙ length-map (drop walk.kept walk.levels.items) (λ (l : Level). l.current) ∙ length-drop walk.kept walk.levels.items
