-- Two hashers that are written the same bytes.
use Rattle.kdl_laws.proofs.Common.{◌≡◌, List, ap, sym, ◌∙◌}
use Rattle.std.specs.Prelude.{fold}
use Rattle.kdl_laws.specs.Hashes.{WritesBoth}

pub both_written : {H A : Type 0} (write : H → A → H) (xs ys : List A) (one one' other other' : H) → one' ≡ fold write one xs → other' ≡ fold write other ys → xs ≡ ys → WritesBoth write xs one one' other other'
both_written write xs ys one one' other other' h k e = record {
  first = h;
  second = k ∙ ap (fold write other) (sym e);
  equal = λ s. h ∙ ap (λ z. fold write z xs) s ∙ ap (fold write other) e ∙ sym k;
}
