-- Tokens of an object that are written one after another.
use Rattle.std.proofs.Common.{◌≡◌, List, [], ◌∷◌, ◌++◌, Result, Ok, Err, append_assoc, append-nil, ap, refl, sym, ◌∙◌}
use Rattle.json.specs.Token.{Token}
use Rattle.json.specs.Written.{Written}
use Rattle.kdl_report.specs.Object.{Puts}

-- what was there before stays, and the tokens are appended
pub record Put (old new : Written) (ts : List Token) : Type 0 where
  pub before : new.before ≡ old.before
  pub tokens : new.tokens ≡ old.tokens ++ ts

pub nothing : (out : Written) → Put out out []
nothing out = record { before = refl; tokens = sym (append-nil out.tokens) }

-- a token more, and more tokens
pub and_token : (old mid new : Written) (ts : List Token) (t : Token) → Put old mid ts → new.before ≡ mid.before → new.tokens ≡ mid.tokens ++ t ∷ [] → Put old new (ts ++ t ∷ [])
and_token old mid new ts t p b e = record { before = b ∙ p.before; tokens = e ∙ ap (λ l. l ++ t ∷ []) p.tokens ∙ append_assoc old.tokens ts (t ∷ []) }

pub and_part : (old mid new : Written) (ts us : List Token) → Put old mid ts → (new.before ≡ mid.before) × (new.tokens ≡ mid.tokens ++ us) → Put old new (ts ++ us)
and_part old mid new ts us p h = record { before = h.0 ∙ p.before; tokens = h.1 ∙ ap (λ l. l ++ us) p.tokens ∙ append_assoc old.tokens ts us }

-- the last part, which may fail
pub last_part : {E : Type 0} (r : Result (Unit {0}) E) (old mid new : Written) (ts us vs : List Token) → Put old mid ts → Puts r mid new us → ts ++ us ≡ vs → Puts r old new vs
last_part (Ok v) old mid new ts us vs p h e = let q = and_part old mid new ts us p h in (q.before, q.tokens ∙ ap (λ l. old.tokens ++ l) e)
last_part (Err x) old mid new ts us vs p h e = tt
