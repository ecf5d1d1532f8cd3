-- Writers that write more.
use Rattle.std.proofs.Common.{◌≡◌, ◌++◌, ◌∙◌, ℕ, List, ap}
use Rattle.std.proofs.lemmas.List.{append_assoc}
use Rattle.json.specs.Token.{Token}

-- some tokens more
pub grown : (a b : List ℕ) (ss ts us : List Token) → b ≡ a → ts ≡ ss ++ us → (b ≡ a) × ((more : List Token) × (ts ≡ ss ++ more))
grown a b ss ts us before is = (before, (us, is))

-- and more again
pub grows_on : (a b c : List ℕ) (ss ts us : List Token) → (b ≡ a) × ((more : List Token) × (ts ≡ ss ++ more)) → (c ≡ b) × ((more : List Token) × (us ≡ ts ++ more)) → (c ≡ a) × ((more : List Token) × (us ≡ ss ++ more))
grows_on a b c ss ts us p q = (q.0 ∙ p.0, (p.1.0 ++ q.1.0, q.1.1 ∙ ap (λ xs. xs ++ q.1.0) p.1.1 ∙ append_assoc ss p.1.0 q.1.0))

-- some tokens, and then others
pub next : (a b c us vs : List Token) → b ≡ a ++ us → c ≡ b ++ vs → c ≡ a ++ (us ++ vs)
next a b c us vs p q = q ∙ ap (λ xs. xs ++ vs) p ∙ append_assoc a us vs
