use Rattle.std.proofs.Common.{rules, ◌≡◌, ◌++◌, ◌∷◌, [], ap, ◌∙◌, sym}
use Rattle.kdl.specs.Words.{document_tree}
use Rattle.kdl_grammar.specs.Tree.{children}
use Rattle.c_calls.specs.Internal.Opened.{with_kids_at}
use Rattle.kdl_path.specs.Internal.Cursor.{plugged, rejoined}
use Rattle.kdl_path.specs.declared.cursor.block.Block.{Block}
use Rattle.kdl_path.proofs.Cursors.{put_in, whole_above}
use Rattle.kdl_path.proofs.cursor.Cursor.leave.Goals as goal

pub returns-clause-whole : goal.returns-clause-whole
returns-clause-whole c =
    let o = c.args.self.now in
    let a = c.in-Some.field-0 in
    let x = c.in_ok-inner.inner in
    let now : Block = record { document = c.put_block.new.document; after = c.replace.new.dest.after } in
    let popped : o.above.items ≡ c.pop.new.self.items ++ a ∷ [] = search rules in
    let around : c.replace.new.dest ≡ a.block = search rules in
    let tree : document_tree now.document ≡ with_kids_at a.index (children (document_tree x)) (document_tree a.block.document) =
    c.put_block.ensures ∙ ap (λ (b : Block). with_kids_at a.index (children (document_tree x)) (document_tree b.document)) around in
    let own : document_tree x ≡ rejoined o.block = c.in_ok-inner.ensures ∙ ap rejoined c.replace.ensures.value in
    ap (plugged c.pop.new.self.items) (put_in a.block now o.block a.index x a.there tree (ap (λ (b : Block). b.after) around) own) ∙ sym (whole_above o.above.items c.pop.new.self.items a (rejoined o.block) popped)
