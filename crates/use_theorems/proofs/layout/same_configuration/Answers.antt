use Rattle.std.proofs.Common.{◌∙◌, ap, refl, sym, subst, string_bytes}
use Rattle.std.proofs.lemmas.Slice.Eq.{bytes_eq-Decides}
use Rattle.std.proofs.lemmas.Str.{encodes_same}
use Rattle.std.specs.Prelude.{chars}
use lib.Utf8.{encodes}
use Rattle.kdl.specs.Words.{IsDocument, Nodes, document_says, without_comments}
use Rattle.kdl_laws.proofs.TwoLayouts.{same_texts}
use Rattle.use_theorems.proofs.layout.same_configuration.Goals as goal

-- the printed texts are the same exactly where the data are, and the strings exactly where the texts are
pub returns : goal.returns
returns c =
    let a = c.in_ok-a in
    let b = c.in_ok-b in
    let f = c.in_ok-autoformat_no_comments.ensures in
    let g = c.in_ok-autoformat_no_comments-2.ensures in
    let same = same_texts without_comments.indent 0 (document_says a.a) (document_says b.b) _ _ f.rereads.reads g.rereads.reads (f.formats.prints (refl, refl) a.ensures.keeps_none) (g.formats.prints (refl, refl) b.ensures.keeps_none) in
    let strings = bytes_eq-Decides (string_bytes c.in_ok-one.one) (string_bytes c.in_ok-other.other) in (
      λ e.
          let bytes = sym c.in_ok-one.ensures.ok ∙ strings.0 (sym c.eq.ensures ∙ e) ∙ c.in_ok-other.ensures.ok in
          (document_says a.a, a.ensures.found, subst (λ (z : Nodes). IsDocument (chars c.args.other.now) z) (sym (same.0 (encodes_same _ _ bytes))) b.ensures.found),
      λ (z, d, e).
          let texts = same.1 (sym (a.ensures.only z d) ∙ b.ensures.only z e) in
          c.eq.ensures ∙ strings.1 (c.in_ok-one.ensures.ok ∙ ap encodes texts ∙ sym c.in_ok-other.ensures.ok),
    )
