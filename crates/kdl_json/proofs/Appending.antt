-- Tokens appended one after another.
use Rattle.std.proofs.Common.{◌≡◌, List, [], ◌∷◌, ◌++◌, append_assoc, ap, refl, ◌∙◌, Result}
use Rattle.std.specs.Prelude.{Ok, Err}
use Rattle.json.specs.Token.{Token}
use Rattle.json.specs.Written.{Written, Writes}
use Rattle.kdl_json.specs.Writing.{Appends}

-- one token
pub wrote : {E : Type 0} (r : Result (Unit {0}) E) (old new : Written) (t : Token) → Writes r old new t → Appends r old new (λ ts. t ∷ ts)
wrote (Ok v) old new t w = record { before = w.room.0; tokens = λ ts. ap (λ (l : List Token). l ++ ts) w.ok ∙ append_assoc old.tokens (t ∷ []) ts }
wrote (Err e) old new t w = record { before = w.room.0; tokens = tt }

-- what stood before stays, and the tokens are appended
pub record Appended (old new : Written) (f : List Token → List Token) : Type 0 where
  pub before : new.before ≡ old.before
  pub tokens : (ts : List Token) → new.tokens ++ ts ≡ old.tokens ++ f ts

pub nothing : (out : Written) → Appended out out (λ ts. ts)
nothing out = record { before = refl; tokens = λ ts. refl }

-- a step that succeeded, and then another one
pub and_token : (old mid new : Written) (f : List Token → List Token) (t : Token) → Appended old mid f → new.before ≡ mid.before → new.tokens ≡ mid.tokens ++ t ∷ [] → Appended old new (λ ts. f (t ∷ ts))
and_token old mid new f t a b e = record {
  before = b ∙ a.before;
  tokens = λ ts. ap (λ (l : List Token). l ++ ts) e ∙ append_assoc mid.tokens (t ∷ []) ts ∙ a.tokens (t ∷ ts);
}

pub and_part : (old mid new : Written) (f g : List Token → List Token) → Appended old mid f → new.before ≡ mid.before → ((ts : List Token) → new.tokens ++ ts ≡ mid.tokens ++ g ts) → Appended old new (λ ts. f (g ts))
and_part old mid new f g a b e = record { before = b ∙ a.before; tokens = λ ts. e ts ∙ a.tokens (g ts) }

-- the last step, which may fail
pub last_token : {E : Type 0} (r : Result (Unit {0}) E) (old mid new : Written) (f : List Token → List Token) (t : Token) → Appended old mid f → Writes r mid new t → Appends r old new (λ ts. f (t ∷ ts))
last_token (Ok v) old mid new f t a w = let n = and_token old mid new f t a w.room.0 w.ok in record { before = n.before; tokens = n.tokens }
last_token (Err e) old mid new f t a w = record { before = w.room.0 ∙ a.before; tokens = tt }

pub append_same : {E : Type 0} (r : Result (Unit {0}) E) (old new : Written) (f g : List Token → List Token) → Appends r old new f → ((ts : List Token) → f ts ≡ g ts) → Appends r old new g
append_same (Ok v) old new f g a e = record { before = a.before; tokens = λ ts. a.tokens ts ∙ ap (λ (l : List Token). old.tokens ++ l) (e ts) }
append_same (Err x) old new f g a e = record { before = a.before; tokens = tt }
