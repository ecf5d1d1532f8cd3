use Rattle.std.proofs.Common.{◌≡◌, ℕ, arith, suc, length, map, replicate, drop, ap, ◌∙◌, ◌-◌, ◌++◌, ◌∷◌}
use Rattle.std.proofs.lemmas.List.{drop-replicate, length-append, length-replicate}
use Rattle.std.specs.Simd.Lanes.{mask_l}
use Rattle.kdl_text.specs.Internal.Tables.{outside}
use Rattle.kdl_text.proofs.Looking.Vectors.{front_found, outside_beyond}
use Rattle.kdl_text.proofs.tables.inside_front.Goals as goal

pub returns : goal.returns
returns c =
    let s = c.args.bytes.now in
    let room : 16 - length s ≡ suc (15 - length s) = omega (arith, c.requires) in
    let rest : drop (length s) (replicate 16 255) ≡ 255 ∷ replicate (15 - length s) 255 = drop-replicate (length s) 16 255 ∙ ap (λ k. replicate k 255) room in
    let lanes = ap (λ z. z ++ drop (length s) (replicate 16 255)) c.copy_from_slice.ensures.after ∙ ap (λ z. s ++ z) rest in
    front_found (outside c.args.columns) s (replicate (15 - length s) 255) 255 _
    (omega (arith, c.requires, length-append s (255 ∷ replicate (15 - length s) 255), length-replicate {A = ℕ} (15 - length s) 255))
    (outside_beyond c.args.columns) (c.outsiders.ensures ∙ ap (λ v. mask_l (map (outside c.args.columns) v)) lanes)
