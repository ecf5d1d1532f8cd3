use Rattle.std.proofs.Common.{rules, ap}
use Rattle.kdl_text.specs.Internal.Here.{Here}
use Rattle.kdl_entry.proofs.Slicing.Between.{is_between}
use Rattle.kdl_entry.proofs.Slicing.SliceCost.{piece_sliced}
use Rattle.kdl_parser.proofs.builder.Builder.wait.Goals as goal

pub returns : goal.returns
returns g c =
    let leading = is_between _ _ c.slice_between-place.result c.slice_between-place.ensures.result in
    let repr = is_between _ _ c.slice_between.result c.slice_between.ensures.result in
    let place = piece_sliced c.slice_between-place.result _ _ _ _ c.slice_between-place.ensures.result (ap (λ (h : Here). h.steps) c.slice_between-place.ensures.moved) in
    let word = piece_sliced c.slice_between.result _ _ _ _ c.slice_between.ensures.result (ap (λ (h : Here). h.steps) c.slice_between.ensures.moved) in
    record { did = search rules; same = search rules; sliced = search rules }
