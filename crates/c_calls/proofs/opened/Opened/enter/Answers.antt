use Rattle.std.proofs.Common.{rules, ◌≡◌, ap, ◌∙◌, refl, None}
use Rattle.kdl.specs.Words.{document_tree}
use Rattle.c_calls.specs.Internal.Opened.{block_in, plugged}
use Rattle.c_calls.specs.declared.opened.Above.{Above}
use Rattle.c_calls.proofs.OpenSteps.{block_absent}
use Rattle.c_calls.proofs.opened.Opened.enter.Goals as goal

pub returns-in_default-clause-kept : goal.returns-in_default-clause-kept
returns-in_default-clause-kept c =
    let o = c.args.self.now in
    let none : block_in c.args.index o.block ≡ None = search rules in
    ap (λ more. plugged more (document_tree c.take_block.new.document)) c.reserve.ensures.items
    ∙ ap (plugged o.above.items) (c.take_block.ensures.tree ∙ block_absent o.block c.args.index none)

pub returns-clause-entered : goal.returns-clause-entered
returns-clause-entered c =
    let o = c.args.self.now in
    let outer : Above = record { document = c.replace-document.result; index = c.args.index } in
    record {
      outer = outer;
      block = search rules;
      index = refl;
      without = search rules;
      above = search rules;
    }
