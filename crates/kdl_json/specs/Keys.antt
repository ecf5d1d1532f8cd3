-- Tokens that do not begin with a key.
use Rattle.std.specs.Prelude.{◌≢◌, ℕ, List, ◌∷◌}
use Rattle.json.specs.Token.{Token, key}

-- the tokens do not begin with that key
abbrev pub NotKey : List ℕ → List Token → Type 0
NotKey k ts = (us : List Token) → ts ≢ key k ∷ us
