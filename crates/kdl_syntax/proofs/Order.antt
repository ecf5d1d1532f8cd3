-- The two places of a token are in order: an end of a text as an equation, and as the rest after a piece.
use Rattle.std.proofs.Common.{◌≡◌, ℕ, ◌-◌, ◌++◌, length, drop, take, sym, ap, ◌∙◌, arith, length-append}
use Rattle.std.proofs.Math.Seq.{drop-append_seam}
use Rattle.std.proofs.lemmas.List.{take-append-drop}
use Rattle.kdl_text.specs.Chars.{Text}
use Rattle.kdl_text.specs.Internal.Here.{Position, Ahead}
use Rattle.kdl_syntax.specs.Internal.Order.{IsEndOf}

-- what follows a later place is an end of what follows an earlier one
pub is_end : (from to : Position) → Ahead from to → IsEndOf from.rest to.rest
is_end from to (p, e) =
    let n : length from.rest - length to.rest ≡ length p = omega (arith, ap length e, length-append p to.rest) in
    ap (λ (k : ℕ). drop k from.rest) n ∙ ap (drop (length p)) e ∙ drop-append_seam p to.rest

-- a place with an end of what follows another is after it
pub ahead : (from to : Position) → IsEndOf from.rest to.rest → Ahead from to
ahead from to e =
    let n = length from.rest - length to.rest in
    (take n from.rest, sym (take-append-drop n from.rest) ∙ ap (λ (z : Text). take n from.rest ++ z) e)
