use Rattle.std.proofs.Common.{◌≡◌, Bool, true, false, ◌||◌, not, ap, refl, subst, sym}
use Rattle.kdl.specs.Words.{AllCommentsStay, IndentsBySpaces, IsDocument, IsLaidDocument, Settings, Text, document_prints, document_tree, settings}
use Rattle.cli.specs.Formatted.{layout_keeping, layout_settings}
use Rattle.cli.proofs.Indents.{config_is, indents_by_spaces}
use Rattle.cli.proofs.fmt.formatted.Goals as goal

or_true : (b : Bool) → (b || true) ≡ true
or_true true = refl
or_true false = refl

pub returns-clause-says : goal.returns-clause-says
returns-clause-says c x h =
    let e = c.autoformat_layout.new.self in
    let s = c.args.settings.now in
    let is : settings c.build.result ≡ layout_settings s = config_is s _ _ _ _ c.in_ok-indent.indent c.builder.ensures c.indent.ensures c.build.ensures c.deref.ensures c.in_ok-indent.ensures in
    let keep : c.build.result.entry_autoformate_keep ≡ false = ap (λ (s : Settings). s.entry_autoformate_keep) is in
    let says = (c.in_ok-autoformat_layout.ensures.rereads (subst IndentsBySpaces (sym is) (indents_by_spaces s.indent))).derived keep c.in_ok-document.ensures.keeps_none in
    let same = c.in_ok-document.ensures.only x h in
    let text = c.printed_reads_once.ensures.text e c.in_ok-out.out c.in_ok-out.ensures.ok in
    subst (λ (t : Text). IsDocument t x) (sym text) (subst (IsDocument (document_prints e)) (sym same) says)

pub returns-clause-laid_out : goal.returns-clause-laid_out
returns-clause-laid_out c =
    let d = c.in_ok-document.document in
    let e = c.autoformat_layout.new.self in
    let s = c.args.settings.now in
    let is : settings c.build.result ≡ layout_settings s = config_is s _ _ _ _ c.in_ok-indent.indent c.builder.ensures c.indent.ensures c.build.ensures c.deref.ensures c.in_ok-indent.ensures in
    let keep : c.build.result.entry_autoformate_keep ≡ false = ap (λ (s : Settings). s.entry_autoformate_keep) is in
    let no : c.build.result.no_comments ≡ false = ap (λ (s : Settings). s.no_comments) is in
    let none = c.in_ok-document.ensures.keeps_none in
    let spaces : IndentsBySpaces (layout_settings s) = indents_by_spaces s.indent in
    let comments = c.in_ok-autoformat_layout.ensures.comments (or_true (not s.respell)) no (subst IndentsBySpaces (sym is) spaces) keep none in
    let spaced : IsLaidDocument (layout_keeping s) (not s.expand) true s.blank_lines (layout_settings s) 0 (document_tree d) (document_tree e) =
    subst (λ (x : Settings). IsLaidDocument (layout_keeping s) (not s.expand) true s.blank_lines x x.indent_level (document_tree d) (document_tree e)) is c.in_ok-autoformat_layout.ensures.formatted in
    let prints = c.printed_reads_once.ensures.text e c.in_ok-out.out c.in_ok-out.ensures.ok in
    record {
      before = document_tree d;
      after = document_tree e;
      laid = c.in_ok-document.ensures.laid;
      formatted = spaced;
      prints = prints;
      comments = subst (AllCommentsStay (document_tree d)) (sym prints) comments;
      again = λ y g. c.second_spaced_layout.ensures.document (layout_keeping s) (not s.expand) true s.blank_lines (layout_settings s) 0 (document_tree d) (document_tree e) y spaces refl none spaced g;
    }
