use Rattle.std.proofs.Common.{map, sym, ap, subst, ◌∙◌}
use Rattle.kdl.specs.Words.{document_says, value_tree}
use Rattle.kdl.specs.declared.document.KdlDocument.{KdlDocument}
use Rattle.kdl_path.specs.Paths.{all_at}
use Rattle.cli.specs.Internal.Applied.{ShowsAt}
use Rattle.cli.proofs.Applying.{no_items, none_shown, one_shown}
use Rattle.cli.proofs.ask.values_at.Goals as goal

pub returns-then-is_empty : goal.returns-then-is_empty
returns-then-is_empty c =
    let values = c.in_ok-values.values in
    let empty = no_items values.items values.len values.ok.0 c.if-is_empty.ensures in
    let all = sym (c.deref-2.ensures ∙ c.new-document.ensures) in
    let none = ap (λ (d : KdlDocument). all_at c.args.path.now (document_says d)) all ∙ sym c.in_ok-values.ensures ∙ ap (map (λ v. value_tree v.now)) empty in
    let shows = subst (λ (d : KdlDocument). ShowsAt c.args.path.now c.args.raw (document_says d) c.one_value-then-is_empty.result) (c.deref-then-is_empty.ensures ∙ c.new-document.ensures) c.one_value-then-is_empty.ensures in
    none_shown c.args.path c.args.raw c.args.all c.args.text.now (document_says c.in_ok-parse.field-0) _ c.if-not-all.false c.in_ok-parse.ensures.found none shows

pub returns-then-not-all : goal.returns-then-not-all
returns-then-not-all c =
    let shows = subst (λ (d : KdlDocument). ShowsAt c.args.path.now c.args.raw (document_says d) c.one_value.result) (c.deref.ensures ∙ c.new-document.ensures) c.one_value.ensures in
    one_shown c.args.path c.args.raw c.args.all c.args.text.now (document_says c.in_ok-parse.field-0) _ c.if-not-all.true c.in_ok-parse.ensures.found shows
