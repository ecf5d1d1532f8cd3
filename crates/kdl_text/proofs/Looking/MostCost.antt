-- What is read costs so much, whether or not it is right.
use Rattle.std.proofs.Common.{◌≡◌, ℕ, ◌++◌, length, length-append, ap, arith}
use Rattle.kdl_text.specs.Chars.{Text}
use Rattle.kdl_text.specs.Internal.Here.{Here, Took, Ran, sliced}
use Rattle.kdl_text.specs.Spans.{bytes}
use Rattle.kdl_text.specs.Internal.Reading.{Costs}
use Rattle.std.specs.Prelude.{Some, Bool}
use Rattle.kdl_text.proofs.Looking.MovesJoin.{bytes-append}
use Rattle.kdl_text.proofs.Looking.Runs.{length-bytes}

-- what was read is sliced
pub copied_most : (p : Text) (a b e : Here) → Costs 2 11 a b → a.rest ≡ p ++ b.rest → e ≡ sliced p b → Costs 4 12 a e
copied_most p a b e k h s = record {
  most = omega (arith, k.most, ap bytes h, bytes-append p b.rest, ap (λ z. z.steps) s, ap (λ z. bytes z.rest) s);
  least = omega (arith, k.least, ap (λ z. z.steps) s, ap (λ z. length z.rest) s);
}

-- a number sign, a word and a slice of it
pub word_most : (c : ℕ) (q : ℕ → Bool) (run p : Text) (a b d e : Here) → Took (Some c) a b → Ran q run b d → b.rest ≡ p ++ d.rest → e ≡ sliced p d → Costs 4 4 a e
word_most c q run p a b d e (r, at, s, y) n h x = record {
  most = omega (arith, ap bytes r, s, ap bytes n.text, bytes-append run d.rest, length-bytes run, n.steps, ap bytes h, bytes-append p d.rest, ap (λ z. z.steps) x, ap (λ z. bytes z.rest) x);
  least = omega (arith, ap length r, s, ap length n.text, length-append run d.rest, n.steps, ap (λ z. z.steps) x, ap (λ z. length z.rest) x);
}
