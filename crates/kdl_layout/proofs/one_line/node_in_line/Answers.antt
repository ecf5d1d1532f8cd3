use Rattle.kdl_layout.proofs.Common.{ℕ, zero, suc, ◌==◌, [], ◌∷◌, ◌++◌, true, false, refl, ap, sym, ◌∙◌, ◌≡◌, Bool, chars, if◌then◌else◌, NodeFormat, node_format_tree, empty_node_format, node_in_line, Text}
use Rattle.std.proofs.Math.Dec.{eqb-suc-zero}
use Rattle.kdl_layout.proofs.Texts.{ascii_text, space_text}
use Rattle.kdl_layout.proofs.one_line.node_in_line.Goals as goal
use Rattle.kdl_layout.proofs.one_line.node_in_line.Goals.{then-following-eq0+in_ok-push_text-3, else-following-eq0+in_ok-push_text-4}

-- a format with four texts
format_made : (last : Bool) (f : NodeFormat) (a b c d : Text) → f ≡ empty_node_format → a ≡ 32 ∷ [] → b ≡ 32 ∷ [] → c ≡ (if last then 32 ∷ [] else []) → d ≡ (if last then [] else 59 ∷ [])
    → record f { leading = a; before_children = b; before_terminator = c; terminator = d } ≡ node_in_line last
format_made last f a b c d e x y z w = rw (e, x, y, z, w) refl

some_follow : (n : ℕ) → (n ≡ 0 → ⊥) → (n == 0) ≡ false
some_follow zero h = absurd (h refl)
some_follow (suc n) h = eqb-suc-zero n

pub returns : goal.returns
returns c =
    let f = node_format_tree c.new-format.result in
    let new = c.new-format.ensures in
    let leading = c.in_ok-push_text.ensures ∙ ap (λ (x : NodeFormat). x.leading ++ chars (32 ∷ [])) new ∙ space_text in
    let block = c.in_ok-push_text-2.ensures ∙ ap (λ (x : NodeFormat). x.before_children ++ chars (32 ∷ [])) new ∙ space_text in
    elim c.if-following-eq0.branch [
      | then-following-eq0+in_ok-push_text-3 w ↦
          let before = w.in_ok-push_text-3.ensures ∙ ap (λ (x : NodeFormat). x.before_terminator ++ chars (32 ∷ [])) new ∙ space_text in
          ap node_format_tree w.format-is
          ∙ format_made true f _ _ _ _ new leading block before (ap (λ (x : NodeFormat). x.terminator) new)
          ∙ ap (λ (n : ℕ). node_in_line (n == 0)) (sym w.if-following-eq0.true)
      | else-following-eq0+in_ok-push_text-4 w ↦
          let end = w.in_ok-push_text-4.ensures ∙ ap (λ (x : NodeFormat). x.terminator ++ chars (59 ∷ [])) new ∙ ascii_text (59 ∷ []) refl in
          ap node_format_tree w.format-is
          ∙ format_made false f _ _ _ _ new leading block (ap (λ (x : NodeFormat). x.before_terminator) new) end
          ∙ ap node_in_line (sym (some_follow c.args.following w.if-following-eq0.false))
    ]
