use Rattle.kdl_layout.proofs.Common.{[], ◌∷◌, ◌++◌, sym, ap, ◌∙◌, arith, append-nil, chars, Text, text_of, tail, item_view}
use Rattle.kdl_layout.specs.declared.spaces.Item.{Item}
use Rattle.kdl_layout.proofs.Rewriting.Pushing.{if_ok, one_char, two, three, escline_text}
use Rattle.kdl_layout.proofs.written.push_after_space.Goals as goal

pub returns-in_ok-push_text-in-Comment-2 : goal.returns-in_ok-push_text-in-Comment-2
returns-in_ok-push_text-in-Comment-2 c =
    let text = chars c.in-Comment.text.now in
    if_ok c.push_text-in-Comment-2.result
    (λ e. three _ _ _ _ (32 ∷ 92 ∷ 32 ∷ []) text (10 ∷ []) (e ∙ ap (λ (t : Text). text_of c.push_text-in-Comment.new.out ++ t) (one_char 10 (omega arith)))
    c.in_ok-push_text-in-Comment-2.ensures (c.in_ok-push_text-in-Comment.ensures ∙ ap (λ (t : Text). text_of c.args.out.now ++ t) escline_text)
    ∙ ap (λ (t : Text). text_of c.args.out.now ++ t) (sym (ap (λ (i : Item). tail (item_view i ∷ [])) c.in-Comment.is ∙ append-nil (32 ∷ 92 ∷ 32 ∷ text ++ (10 ∷ [])))))
    c.push_text-in-Comment-2.ensures

pub returns-in_ok-push_text-in-Piece : goal.returns-in_ok-push_text-in-Piece
returns-in_ok-push_text-in-Piece c =
    let text = chars c.in-Piece.text.now in
    if_ok c.push_text-in-Piece-2.result
    (λ e. two _ _ _ (32 ∷ []) text e (c.in_ok-push_text-in-Piece.ensures ∙ ap (λ (t : Text). text_of c.args.out.now ++ t) (one_char 32 (omega arith)))
    ∙ ap (λ (t : Text). text_of c.args.out.now ++ t) (sym (ap (λ (i : Item). tail (item_view i ∷ [])) c.in-Piece.is ∙ append-nil (32 ∷ text))))
    c.push_text-in-Piece-2.ensures
