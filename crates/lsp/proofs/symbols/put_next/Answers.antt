use Rattle.std.proofs.Common.{◌∙◌, ap, refl, sym}
use Rattle.std.proofs.lemmas.Result.{on_ok_weaker}
use Rattle.lsp.specs.Internal.Nesting.{Items, Members, after_value}
use Rattle.lsp.proofs.Nesting.{wrote}
use Rattle.lsp.proofs.Trees.{item_stays, less_in, less_left, on_any, pushed}
use Rattle.lsp.proofs.symbols.put_next.Goals as goal

pub returns-in_ok-push-in-Some-children-clause-less : goal.returns-in_ok-push-in-Some-children-clause-less
returns-in_ok-push-in-Some-children-clause-less c =
    less_in (λ l. l.left.now) c.args.levels.now.items c.push.new.self.items c.push-in-Some-children.new.self.items c.args.level.left.now c.in-Some.left.now c.in-Some.node.now c.in-Some-children.block.now _ _
    c.in-Some.ensures.cases.0 c.in_ok-push.ensures.items refl c.in-Some-children.ensures.value c.in_ok-push-in-Some-children.ensures.items c.nodes.ensures.value

pub returns-in-None-clause-less : goal.returns-in-None-clause-less
returns-in-None-clause-less c =
    on_any c.put_end.result _
    (less_left (λ l. l.left.now) c.args.levels.now.items c.push.new.self.items c.args.level.left.now c.in-Some.left.now c.in-Some.node.now _ c.in-Some.ensures.cases.0 c.in_ok-push.ensures.items refl)

pub returns-in_ok-push-in-Some-children-clause-nesting : goal.returns-in_ok-push-in-Some-children-clause-nesting
returns-in_ok-push-in-Some-children-clause-nesting c n is =
    let node = c.in_ok-put_head.ensures ∙ ap (λ m. Members (after_value m)) is ∙ ap Members (item_stays _ c.args.level.owner) in
    let key = wrote _ _ _ _ _ c.in_ok-key-in-Some-children.ensures node in
    let array = wrote _ _ _ _ _ c.in_ok-begin_array-in-Some-children.ensures key in
    let left = pushed n c.args.levels.now.items _ _ c.in_ok-push.ensures.items in
    let block = pushed n c.push.new.self.items _ _ c.in_ok-push-in-Some-children.ensures.items in
    array ∙ sym (block ∙ ap (λ m. Items (Members m)) left)

pub returns-in-None-clause-nesting : goal.returns-in-None-clause-nesting
returns-in-None-clause-nesting c n is =
    let node = c.in_ok-put_head.ensures ∙ ap (λ m. Members (after_value m)) is ∙ ap Members (item_stays _ c.args.level.owner) in
    on_ok_weaker c.put_end.result (λ e. e _ node ∙ sym (pushed n c.args.levels.now.items _ _ c.in_ok-push.ensures.items)) c.put_end.ensures
