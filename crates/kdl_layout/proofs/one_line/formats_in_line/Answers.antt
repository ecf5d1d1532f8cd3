use Rattle.kdl_layout.proofs.Common.{rules, arith, ◌≡◌, ◌-◌, [], ◌∷◌, ◌++◌, List, map, ap, ◌∙◌, ℕ, zero, suc, ◌<◌, ◌==◌, sym, append_assoc, refl, map-append, NodeFormat, node_format_tree, KdlNodeFormat, formats_in_line, node_in_line}
use Rattle.kdl_layout.proofs.one_line.formats_in_line.Goals as goal

-- one format more
next_format : (n : ℕ) → 0 < n → formats_in_line n ≡ node_in_line (n - 1 == 0) ∷ formats_in_line (n - 1)
next_format zero h = absurd (omega arith)
next_format (suc n) h = let e : suc n - 1 ≡ n = omega arith in rw e refl

one_more : (made : List NodeFormat) (f : NodeFormat) (n : ℕ) (all : List NodeFormat) → 0 < n → f ≡ node_in_line (n - 1 == 0) → made ++ formats_in_line n ≡ all → (made ++ f ∷ []) ++ formats_in_line (n - 1) ≡ all
one_more made f n all h g i =
    append_assoc made (f ∷ []) (formats_in_line (n - 1))
    ∙ ap (λ (x : NodeFormat). made ++ (x ∷ formats_in_line (n - 1))) g
    ∙ ap (λ (x : List NodeFormat). made ++ x) (sym (next_format n h))
    ∙ i

pub loop-left-preserved : goal.loop-left-preserved
loop-left-preserved c =
    let l = c.loop-left in
    let f = c.in_ok-node_in_line.field-0 in
    let pushed : c.push.new.self.items ≡ l.formats.items ++ f ∷ [] = search rules in
    ap (λ (v : List KdlNodeFormat). map node_format_tree v ++ formats_in_line (l.left - 1)) pushed
    ∙ ap (λ (v : List NodeFormat). v ++ formats_in_line (l.left - 1)) (map-append node_format_tree l.formats.items (f ∷ []))
    ∙ one_more (map node_format_tree l.formats.items) (node_format_tree f) l.left (formats_in_line c.args.count) (omega arith) c.in_ok-node_in_line.ensures l.invariant
