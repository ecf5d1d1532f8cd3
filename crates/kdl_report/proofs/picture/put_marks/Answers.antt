use Rattle.std.proofs.Common.{[], ◌∷◌, ◌++◌, ap, ◌∙◌, append_assoc, chars}
use Rattle.kdl_text.specs.Chars.{Text, times}
use Rattle.kdl_report.specs.Picture.{margin, paint}
use Rattle.kdl_report.specs.Shown.{columns, shown, text_of}
use Rattle.kdl_report.proofs.Appended.{and_last, and_then, as_piece, columns_add}
use Rattle.kdl_report.proofs.picture.put_marks.Goals as goal

pub returns : goal.returns
returns c =
    let x = c.args.excerpt.now in
    let first = text_of c.args.out.now in
    let m : Text = margin c.args.margin.color c.args.margin.width 124 ++ 32 ∷ [] in
    let s : Text = times (columns (shown (chars x.before.now))) 32 in
    let t : Text = times (columns (shown (chars x.left.now))) 32 in
    let a = and_then first _ _ (margin c.args.margin.color c.args.margin.width 124) (32 ∷ []) c.in_ok-put_margin.ensures c.in_ok-put_char.ensures in
    let left = and_then first _ _ (m ++ s) t (and_then first _ _ m s a c.in_ok-put_columns.ensures.marks) c.in_ok-put_columns-2.ensures.marks in
    let b = as_piece first _ ((m ++ s) ++ t) (m ++ times (columns (shown (chars x.before.now ++ chars x.left.now))) 32) left (append_assoc m s t ∙ ap (λ z. m ++ z) (columns_add (chars x.before.now) (chars x.left.now) 32)) in
    let d = and_then _ _ _ _ _ b (as_piece _ _ _ _ c.in_ok-put_paint.ensures (ap (paint c.args.margin.color) c.style_of.ensures)) in
    let e = and_then _ _ _ _ _ d c.in_ok-put_carets.ensures in
    let f = and_then _ _ _ _ _ e c.in_ok-put_spaced.ensures in
    let g = and_then _ _ _ _ _ f c.in_ok-put_paint-2.ensures in
    and_last c.put_char-2.result _ _ _ _ _ g c.put_char-2.ensures
