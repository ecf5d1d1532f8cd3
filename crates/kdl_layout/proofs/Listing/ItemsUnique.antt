-- A gap, or a place in a node, has one list of items at most.
use Rattle.kdl_layout.proofs.Common.{◌≡◌, refl, List, [], ◌∷◌, ◌++◌, sym, ap, subst, ◌∙◌, Text, slashdash, between, Item, piece, GapItems, Place, takes_entries, PlaceItems, EndItems, ItemsIn, ended, NodePasses, at, NodeSlashdash}
use Rattle.kdl_layout.proofs.Dropping.DroppedNodes.{passes_node, passes_last, tight_same, node_returned, node_ended}
use Rattle.kdl_layout.proofs.Dropping.DroppedParts.{place_quiet, entry_passes, block_passes, part_leaves}
use Rattle.kdl_layout.proofs.Listing.SpaceItems.{gap_space, gap_end, place_space, place_end}

pub gap_items_det : {s : Text} {is js : List Item} → GapItems s is → GapItems s js → is ≡ js
gap_items_det {js = js} GapItems.none h = sym ((gap_end js).0 h)
gap_items_det {js = js} (GapItems.space {is = is} d g) h = let w = (gap_space d js).0 h in ap (λ (l : List Item). is ++ l) (gap_items_det g w.2) ∙ sym w.1
gap_items_det {js = js} (GapItems.dropped_node {e = e} (slashdash {s = t} ls) x i g) h =
    let w = (node_returned (passes_node ls x i).1 i js).0 h in
    ap (λ (l : List Item). piece (between (47 ∷ 45 ∷ t) e) ∷ l) (gap_items_det g w.2) ∙ sym w.1
gap_items_det {js = js} (GapItems.last_node {u = u} (slashdash {s = t} ls) x tight ss g) h =
    let q = passes_last ls x ss in
    let w = (node_ended (subst (λ (z : Text). NodePasses (at NodeSlashdash []) t t (ended z)) (tight_same tight q.1 q.2) q.3) js).0 h in
    ap (λ (l : List Item). piece (between (47 ∷ 45 ∷ t) u) ∷ l) (gap_items_det g w.2) ∙ sym w.1

pub place_items_det : {p : Place} {s : Text} {is js : List Item} → PlaceItems p s is → PlaceItems p s js → is ≡ js
place_items_det {p = p} {js = js} (PlaceItems.ends e) h = sym ((place_end p js).0 h).1
place_items_det {js = js} (PlaceItems.space {is = is} d g) h = let w = (place_space d js).0 h in ap (λ (l : List Item). is ++ l) (place_items_det g w.2) ∙ sym w.1
place_items_det {p = p} {js = js} (PlaceItems.dropped_entry {u = u} e (slashdash {s = t} ls) i g) h =
    let w = (part_leaves (entry_passes ls i (place_quiet g) (takes_entries p) e t) refl js).0 h in
    ap (λ (l : List Item). piece (between (47 ∷ 45 ∷ t) u) ∷ l) (place_items_det g w.2) ∙ sym w.1
place_items_det {p = p} {js = js} (PlaceItems.dropped_block {u = u} e (slashdash {s = t} ls) b g) h =
    let w = (part_leaves (block_passes ls b (takes_entries p) t) e js).0 h in
    ap (λ (l : List Item). piece (between (47 ∷ 45 ∷ t) u) ∷ l) (place_items_det g w.2) ∙ sym w.1

-- so a text in its place has one list of items
pub items_in_det : {Has : List Item → Type 0} {is js : List Item} → ((is js : List Item) → Has is → Has js → is ≡ js) → ItemsIn Has is → ItemsIn Has js → is ≡ js
items_in_det det (ItemsIn.items {is = is} d) (ItemsIn.items {is = js} e) = det is js d e
items_in_det det (ItemsIn.no_items f) (ItemsIn.no_items h) = refl
items_in_det det (ItemsIn.items {is = is} d) (ItemsIn.no_items h) = absurd (h is d)
items_in_det det (ItemsIn.no_items f) (ItemsIn.items {is = is} e) = absurd (f is e)

pub gap_in_det : {t : Text} {is js : List Item} → ItemsIn (GapItems t) is → ItemsIn (GapItems t) js → is ≡ js
gap_in_det i j = items_in_det (λ is js d e. gap_items_det d e) i j

pub place_in_det : {p : Place} {t : Text} {is js : List Item} → ItemsIn (PlaceItems p t) is → ItemsIn (PlaceItems p t) js → is ≡ js
place_in_det i j = items_in_det (λ is js d e. place_items_det d e) i j

-- and so has a terminator
pub end_items_det : {t : Text} {is js : List Item} → EndItems t is → EndItems t js → is ≡ js
end_items_det (EndItems.line_comment l) (EndItems.line_comment m) = refl
end_items_det (EndItems.other f) (EndItems.other h) = refl
end_items_det (EndItems.line_comment l) (EndItems.other h) = absurd (h l)
end_items_det (EndItems.other f) (EndItems.line_comment m) = absurd (f m)
