use Rattle.kdl_layout.proofs.Common.{◌≡◌, ℕ, Bool, Option, None, Some, ap, sym, subst, ◌∙◌, chars, Text, NodeFormat, empty_node_format, node_format_tree, node_texts, KdlNodeFormat, Place, Settings, indentation, settings, or_empty, last_place, IsSpacedLine, PassesFormat, place_view, Before}
use Rattle.kdl_layout.proofs.layout.lay_out_line.Goals as goal

formless : (number : ℕ) (s : Settings) (margin : Text) (p : Place) (b next : Before) (o : Option KdlNodeFormat) (f : NodeFormat) (g : Option NodeFormat) → o ≡ None → f ≡ empty_node_format
    → ((level : ℕ) (has : Bool) → margin ≡ indentation s level → p ≡ last_place has → IsSpacedLine number s level has b f g × PassesFormat number s f next)
    → (level : ℕ) (has : Bool) → margin ≡ indentation s level → p ≡ last_place has → IsSpacedLine number s level has b (or_empty (node_texts o)) g × PassesFormat number s (or_empty (node_texts o)) next
formless number s margin p b next o f g e h k =
    subst (λ (z : NodeFormat). (level : ℕ) (has : Bool) → margin ≡ indentation s level → p ≡ last_place has → IsSpacedLine number s level has b z g × PassesFormat number s z next)
    (h ∙ sym (ap (λ (x : Option KdlNodeFormat). or_empty (node_texts x)) e)) k

pub returns-in-Some-clause-spaced : goal.returns-in-Some-clause-spaced
returns-in-Some-clause-spaced c = rw c.in-Some.is c.line_format.ensures.spaced

pub returns-in_ok-next-in-None-clause-spaced : goal.returns-in_ok-next-in-None-clause-spaced
returns-in_ok-next-in-None-clause-spaced c =
    formless c.args.layout.now.blank_lines (settings c.args.layout.now.config) (chars c.args.margin.now) (place_view c.args.last) c.args.before c.in_ok-next-in-None.next c.args.format.now
    (node_format_tree c.new-line.result) (Some (node_format_tree c.line_format-in-None.new.format)) c.in-None.is c.new-line.ensures c.in_ok-next-in-None.ensures.spaced
