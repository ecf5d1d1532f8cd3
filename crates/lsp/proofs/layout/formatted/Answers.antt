use Rattle.std.proofs.Common.{◌≡◌, ◌∙◌, ap, subst, true}
use Rattle.std.specs.Str.{chars}
use Rattle.kdl.specs.Words.{IsLaidDocument, Settings, defaults, document_tree, settings}
use Rattle.lsp.specs.Formatting.{layout_settings}
use Rattle.lsp.proofs.layout.formatted.Goals as goal

pub returns-clause-laid_out : goal.returns-clause-laid_out
returns-clause-laid_out c =
    let d = c.in_ok-document.document in
    let e = c.autoformat_layout.new.self in
    let is : settings c.build.result ≡ layout_settings c.args.indent =
    c.build.ensures ∙ c.indent.ensures ∙ ap (λ (x : Settings). record x { indent = chars c.deref.result.now }) c.builder.ensures
    ∙ ap (λ t. record defaults { indent = chars t }) (c.deref.ensures ∙ c.in_ok-indent.ensures) in
    record {
      before = document_tree d;
      after = document_tree e;
      laid = c.in_ok-document.ensures.laid;
      formatted = subst (λ (x : Settings). IsLaidDocument (record { spelling = true; comments = true }) true true 1 x x.indent_level (document_tree d) (document_tree e)) is c.in_ok-autoformat_layout.ensures.formatted;
      prints = c.in_ok-to_string.ensures.ok;
    }
