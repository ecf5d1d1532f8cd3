use Rattle.std.proofs.Common.{◌≡◌, Bool, false, chars, ap, subst, sym}
use Rattle.kdl_laws.specs.ClientWords.{IsSpacedOut}
use Rattle.kdl.specs.Words.{IndentsBySpaces, IsDocument, Keeping, Settings, keeping, Text, defaults, document_prints, settings, text_of}
use Rattle.use_files.proofs.layout.laid_out.Goals as goal

pub returns-clause-says : goal.returns-clause-says
returns-clause-says c x h =
    let d = c.in_ok-document.document in
    let e = c.autoformat_layout.new.self in
    let is : settings c.new.result.config ≡ defaults = c.new.ensures.config in
    let keep : c.new.result.config.entry_autoformate_keep ≡ false = ap (λ (s : Settings). s.entry_autoformate_keep) is in
    let says = (c.in_ok-autoformat_layout.ensures.rereads (subst IndentsBySpaces (sym is) c.defaults_indent_by_spaces.ensures)).derived keep c.in_ok-document.ensures.keeps_none in
    let same = c.in_ok-document.ensures.only x h in
    let text = c.printed_reads_once.ensures.text e c.in_ok-to_string.field-0 c.in_ok-to_string.ensures.ok in
    subst (λ (t : Text). IsDocument t x) (sym text) (subst (IsDocument (document_prints e)) (sym same) says)

pub returns-clause-laid_out : goal.returns-clause-laid_out
returns-clause-laid_out c =
    let d = c.in_ok-document.document in
    let e = c.autoformat_layout.new.self in
    let is : settings c.new.result.config ≡ defaults = c.new.ensures.config in
    let keep : c.new.result.config.entry_autoformate_keep ≡ false = ap (λ (s : Settings). s.entry_autoformate_keep) is in
    let no : c.new.result.config.no_comments ≡ false = ap (λ (s : Settings). s.no_comments) is in
    let none = c.in_ok-document.ensures.keeps_none in
    let off = c.new.ensures.one_line in
    let full = c.new.ensures.compact_empty in
    let comments = (c.in_ok-autoformat_layout.ensures.rereads (subst IndentsBySpaces (sym is) c.defaults_indent_by_spaces.ensures)).comments keep no none in
    let l = record c.new.result { blank_lines = 1 } in
    let out = c.in_ok-to_string.field-0 in
    subst (λ (k : Keeping). IsSpacedOut k false false 1 (chars c.args.text.now) (text_of out)) c.new.ensures.keeping
    (subst (λ (k : Bool). IsSpacedOut (keeping l) k false 1 (chars c.args.text.now) (text_of out)) off
    (subst (λ (k : Bool). IsSpacedOut (keeping l) l.keep_one_line k 1 (chars c.args.text.now) (text_of out)) full
    (c.texts_are_spaced_out.ensures (chars c.args.text.now) l d e out is c.in_ok-document.ensures.laid none c.in_ok-autoformat_layout.ensures.formatted comments c.in_ok-to_string.ensures.ok)))
