-- The words that a bare string may not be.
use Rattle.std.proofs.Common.{◌≡◌, ℕ, zero, suc, List, [], ◌∷◌, Bool, true, ◌↔◌, IsTrue, sym, ◌∙◌, arith}
use Rattle.std.proofs.lemmas.Bool.{and_parts}
use Rattle.std.proofs.lemmas.Bool.Decides.{same_from_decides, nat_tests}
use Rattle.std.proofs.lemmas.Slice.Eq.{bytes_eq-Decides}
use Rattle.std.proofs.lemmas.Str.{chars-IsAscii}
use Rattle.std.specs.List.{list_all}
use Rattle.std.specs.Str.{chars, bytes_eq, IsAscii}
use Rattle.kdl_text.specs.Chars.{within}

ascii : (bs : List ℕ) → list_all (within 0 127) bs ≡ true → IsAscii bs
ascii [] h i = omega arith
ascii (b ∷ bs) h zero = let (here, more) = and_parts (within 0 127 b) _ h in grind (arith, nat_tests)
ascii (b ∷ bs) h (suc i) = ascii bs (and_parts (within 0 127 b) _ h).1 i

pub word_test : (r : Bool) (a b : List ℕ) → list_all (within 0 127) b ≡ true → IsTrue r ↔ (a ≡ chars b) → r ≡ bytes_eq a b
word_test r a b k h =
    let e = chars-IsAscii b (ascii b k) in
    sym (same_from_decides _ _ (bytes_eq-Decides a b) (λ t. h.0 t ∙ e, λ t. h.1 (t ∙ sym e)))
