-- A text that is laid out.
use Rattle.kdl_laws.proofs.Common.{◌≡◌, Global, String, string_bytes, refl, subst, sym, true, false, encode_utf8_all, list_all, Text, is_space, text_of, Settings, defaults, settings, IsLaidDocument, document_stays, document_prints, document_tree, KdlDocument}
use Rattle.kdl_grammar.specs.Laid.{LaidDocument}
use Rattle.kdl_layout.specs.Config.{keeping}
use Rattle.kdl_layout.specs.Comments.{CommentsStay}
use Rattle.kdl_layout.specs.declared.config.Layout.{Layout}
use Rattle.kdl_layout.proofs.OneLine.Again as line
use Rattle.kdl.specs.Layout.{DocumentKeepsNoForm, DocumentLaidOut, DocumentSpaced}
use Rattle.kdl_laws.specs.LaidOut.{IsLaidOut, IsSpacedOut}
use Rattle.kdl_laws.proofs.PrintedOnce.{printed}

spaces_are : list_all is_space defaults.indent ≡ true
unfolding is_space
spaces_are = refl

pub text_laid_out : (text : Text) (d e : KdlDocument) (s : String Global) → LaidDocument (document_tree d) text → DocumentKeepsNoForm d → DocumentLaidOut defaults d e → CommentsStay (document_tree d) (document_prints e)
    → string_bytes s ≡ encode_utf8_all (document_prints e) → IsLaidOut text (text_of s)
text_laid_out text d e s laid none formatted comments h =
    let p = printed e s h in
    record {
      before = document_tree d;
      after = document_tree e;
      laid = laid;
      formatted = formatted;
      prints = p;
      comments = subst (CommentsStay (document_tree d)) (sym p) comments;
      again = λ y g. document_stays false 0 defaults 0 spaces_are refl (document_tree d) (document_tree e) y formatted none g;
    }

-- the same with blank lines
pub text_spaced_out : (text : Text) (l : Layout) (d e : KdlDocument) (s : String Global) → settings l.config ≡ defaults → LaidDocument (document_tree d) text → DocumentKeepsNoForm d → DocumentSpaced l d e
    → CommentsStay (document_tree d) (document_prints e) → string_bytes s ≡ encode_utf8_all (document_prints e) → IsSpacedOut (keeping l) l.keep_one_line l.compact_empty l.blank_lines text (text_of s)
text_spaced_out text l d e s is laid none formatted comments h =
    let p = printed e s h in
    let f : IsLaidDocument (keeping l) l.keep_one_line l.compact_empty l.blank_lines defaults 0 (document_tree d) (document_tree e) =
    subst (λ (x : Settings). IsLaidDocument (keeping l) l.keep_one_line l.compact_empty l.blank_lines x x.indent_level (document_tree d) (document_tree e)) is formatted in
    record {
      before = document_tree d;
      after = document_tree e;
      laid = laid;
      formatted = f;
      prints = p;
      comments = subst (CommentsStay (document_tree d)) (sym p) comments;
      again = λ y g. line.document_stays l.compact_empty l.blank_lines defaults spaces_are l.keep_one_line refl (keeping l) 0 (document_tree d) (document_tree e) y f none g;
    }
