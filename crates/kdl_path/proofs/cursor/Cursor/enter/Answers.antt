use Rattle.std.proofs.Common.{rules, ◌≡◌, ◌∷◌, None, Some, ap, ◌∙◌, sym}
use Rattle.kdl.specs.Words.{document_tree}
use Rattle.kdl_grammar.specs.Tree.{document_data, no_children}
use Rattle.c_calls.specs.Internal.Opened.{block_in}
use Rattle.kdl_query.specs.Selects.{node_at}
use Rattle.kdl_path.specs.Internal.Cursor.{plugged, rejoined}
use Rattle.kdl_path.proofs.Cursors.{no_block_at, still_inside, taken_out, whole_above}
use Rattle.kdl_path.proofs.cursor.Cursor.enter.Goals as goal

pub returns-in_default-clause-missing : goal.returns-in_default-clause-missing
returns-in_default-clause-missing c =
    let b = c.reach.new.self in
    let i = c.args.index in
    let none : block_in i b.document ≡ None = search rules in
    λ below j. ap (λ d. node_at (i ∷ j ∷ below) (document_data d)) (sym c.in_ok-reach.ensures.same) ∙ no_block_at b i j below c.in_ok-reach.ensures.there none

pub invariant_of-push : goal.invariant_of-push
invariant_of-push c =
    let same : c.replace-block.result.document ≡ c.take_block.new.document = search rules in
    record { there = still_inside c.args.index no_children c.reach.new.self.document c.replace-block.result.document (ap document_tree same ∙ c.take_block.ensures.tree) c.in_ok-reach.ensures.there }

pub returns-clause-whole : goal.returns-clause-whole
returns-clause-whole c =
    let o = c.args.self.now in
    let b = c.reach.new.self in
    let out = c.replace-block.result in
    let inner = c.new-inner.result in
    let same : out.document ≡ c.take_block.new.document = search rules in
    let after : out.after ≡ b.after = search rules in
    let there : block_in c.args.index b.document ≡ Some c.in-Some.document = search rules in
    ap (λ x. plugged c.push.new.self.items (rejoined x)) c.replace-block.ensures.after
    ∙ whole_above c.push.new.self.items o.above.items _ (rejoined inner) c.in_ok-push.ensures.items
    ∙ ap (plugged o.above.items)
    (taken_out b out inner c.args.index c.in-Some.document c.in_ok-reach.ensures.there there (ap document_tree same ∙ c.take_block.ensures.tree) after c.new-inner.ensures.whole ∙ c.in_ok-reach.ensures.same)
