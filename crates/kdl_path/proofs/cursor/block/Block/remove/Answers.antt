use Rattle.std.proofs.Common.{rules, ◌≡◌, ◌++◌, ◌∷◌, [], length, ap, ◌∙◌, refl}
use Rattle.kdl.specs.Words.{nodes_of}
use Rattle.kdl_path.proofs.Cursors.{removed_last}
use Rattle.kdl_path.proofs.cursor.block.Block.remove.Goals as goal

pub returns-in-Some : goal.returns-in-Some
returns-in-Some c =
    let n = c.in-Some.node in
    let nodes : nodes_of c.begin_next.new.self.document ≡ nodes_of c.pop_node.new.document ++ n ∷ [] = search rules in
    removed_last c.args.self.now c.part.new.self c.begin_next.new.self _ n c.args.index c.in_ok-part.ensures.moved c.in_ok-begin_next.ensures.laid nodes
    (ap (λ d. length (nodes_of d)) c.in_ok-begin_next.ensures.same ∙ c.in_ok-part.ensures.last) c.pop_node.ensures.rest refl
