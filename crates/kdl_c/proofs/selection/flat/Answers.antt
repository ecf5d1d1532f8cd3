use Rattle.std.proofs.Common.{rules, ◌≡◌, ◌++◌, ◌∷◌, [], ◌∙◌, ℕ, List, ap, append_assoc, length, map, sym}
use Rattle.std.proofs.lemmas.List.{take_all}
use Rattle.kdl_c.specs.Queries.{flat}
use Rattle.kdl_c.proofs.FlatSteps.{flat_more}
use Rattle.kdl_c.proofs.selection.flat.Goals as goal

pub loop-path-preserved : goal.loop-path-preserved
loop-path-preserved c =
    let x = c.path-item.result in
    let all = c.loop-path.all.items in
    let size : c.len.result ≡ length x.items = search rules in
    let items : c.push.new.self.items ≡ all ++ c.len.result ∷ [] = search rules in
    let whole : c.extend_from_slice.new.self.items ≡ c.push.new.self.items ++ x.items = search rules in
    whole ∙ ap (λ (l : List ℕ). l ++ x.items) items ∙ append_assoc all (c.len.result ∷ []) x.items ∙ ap (λ (n : ℕ). all ++ n ∷ x.items) size
    ∙ ap (λ (l : List ℕ). l ++ length x.items ∷ x.items) c.loop-path.invariant
    ∙ sym (flat_more (λ p. p.items) c.args.paths.now c.loop-path.path-index x c.loop-path-test.true c.path-item.is)

pub returns : goal.returns
returns c =
    c.loop-path.invariant ∙ ap (λ ps. flat (map (λ p. p.items) ps)) (take_all c.loop-path.path-index c.args.paths.now c.loop-path-test.false)
