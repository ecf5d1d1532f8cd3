use Rattle.kdl.proofs.Common.{◌≡◌, ◌∷◌, ◌++◌, [], List, drop, take, get_or, length, map, ap, refl, sym, ◌∙◌, rules, arith, into_iter_items, with_formats, node_tree, KdlNode, node_format_tree, KdlNodeFormat}
use Rattle.kdl_parts.proofs.Loops.{given_back}
use Rattle.kdl.proofs.LayingOut.Lines.{all_from, format_put, formats_from, none_from, nothing_left, one_more, set_here}
use Rattle.kdl.proofs.layout.set_formats.Goals as goal

pub loop-node-init : goal.loop-node-init
loop-node-init c = (refl, omega (arith, c.into_iter-formats.ensures.len, ap length c.into_iter-formats.ensures.rest, c.args.formats.ok.0))

pub loop-node-preserved : goal.loop-node-preserved
loop-node-preserved c =
    let l = c.loop-node in
    let f = c.in-Some.format in
    let n = c.node-item.result in
    let start = with_formats (map node_format_tree (into_iter_items c.into_iter-formats.result)) (map node_tree c.deref_mut-node-items.result.now) in
    let next : into_iter_items l.formats ≡ f ∷ into_iter_items c.next.new.self = c.in-Some.ensures.cases.0 in
    let put = ap node_tree c.set_format.ensures ∙ format_put (get_or l.node-items l.node-index n) f in (
      one_more l.node-items l.node-index (node_format_tree f) (map node_format_tree (into_iter_items c.next.new.self)) (map node_format_tree (into_iter_items l.formats)) c.set_format.new.self n start (omega arith) put
          (ap (map node_format_tree) next) l.invariant.0,
      omega (arith, l.invariant.1, c.in-Some.ensures.cases.1, ap length next),
    )

pub returns-in_default : goal.returns-in_default
returns-in_default c =
    let l = c.loop-node in
    let none : into_iter_items l.formats ≡ [] = nothing_left (into_iter_items l.formats) (omega (arith, l.invariant.1, c.in_default.ensures.cases.0)) in
    let given : into_iter_items c.into_iter-formats.result ≡ c.args.formats.items = search rules in
    let ys = c.args.nodes.now.items in
    ap (λ (z : List KdlNode). map node_tree (take c.args.nodes.now.len (z ++ drop (length z) ys))) (set_here l.node-items l.node-index c.node-item.result)
    ∙ ap (map node_tree) (given_back c.args.nodes.now.len l.node-items c.args.nodes.now.items (omega arith))
    ∙ sym (none_from l.node-index (map node_tree l.node-items))
    ∙ ap (λ (x : List KdlNodeFormat). formats_from l.node-index (map node_format_tree x) (map node_tree l.node-items)) (sym none)
    ∙ l.invariant.0
    ∙ ap (λ (x : List KdlNodeFormat). with_formats (map node_format_tree x) (map node_tree c.deref_mut-node-items.result.now)) given
    ∙ ap (λ (x : List KdlNode). with_formats (map node_format_tree c.args.formats.items) (map node_tree x)) c.deref_mut-node-items.ensures.value

pub returns : goal.returns
returns c =
    let l = c.loop-node in
    let given : into_iter_items c.into_iter-formats.result ≡ c.args.formats.items = search rules in
    ap (map node_tree) (given_back c.args.nodes.now.len l.node-items c.args.nodes.now.items (omega arith))
    ∙ sym (all_from l.node-index (map node_format_tree (into_iter_items l.formats)) l.node-items (omega arith))
    ∙ l.invariant.0
    ∙ ap (λ (x : List KdlNodeFormat). with_formats (map node_format_tree x) (map node_tree c.deref_mut-node-items.result.now)) given
    ∙ ap (λ (x : List KdlNode). with_formats (map node_format_tree c.args.formats.items) (map node_tree x)) c.deref_mut-node-items.ensures.value
