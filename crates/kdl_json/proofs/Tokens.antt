-- Tokens after the first one.
use Rattle.std.proofs.Common.{◌≡◌, ◌≢◌, ℕ, List, ◌∷◌, Option, Some, None, refl, ◌∙◌, sym}
use Rattle.std.specs.Str.{encode_utf8_all}
use Rattle.json.specs.Token.{Token, key, string}
use Rattle.kdl_text.specs.Chars.{Text}
use Rattle.kdl_json.specs.Form.{member_tokens}
use Rattle.kdl_json.specs.Keys.{NotKey}

-- after the same token
pub after_first : {t : Token} {ts us vs : List Token} → ts ≡ t ∷ us → ts ≡ t ∷ vs → us ≡ vs
after_first {t} {ts} {us} {vs} a b = cc

-- a string at the front
pub same_string : {u v : List ℕ} {ts us vs : List Token} → ts ≡ string u ∷ us → ts ≡ string v ∷ vs → (u ≡ v) × (us ≡ vs)
same_string {u} {v} {ts} {us} {vs} a b = (cc, cc)

-- a key and a string that are not there
pub lacks : (k : List ℕ) (o : Option Text) (ts rest : List Token) → ((us : List Token) → ts ≢ key k ∷ us) → ts ≡ member_tokens k o rest → (None ≡ o) × (ts ≡ rest)
lacks k None ts rest n e = (refl, e)
lacks k (Some s) ts rest n e = absurd (n _ e)

-- and that are
pub record Has (o : Option Text) (new rest : List Token) : Type 0 where
  pub text : Text
  pub is : o ≡ Some text
  pub tokens : new ≡ string (encode_utf8_all text) ∷ rest

pub has : (k : List ℕ) (o : Option Text) (ts new rest : List Token) → NotKey k rest → ts ≡ key k ∷ new → ts ≡ member_tokens k o rest → Has o new rest
has k None ts new rest n t e = absurd (n new (sym e ∙ t))
has k (Some s) ts new rest n t e = record { text = s; is = refl; tokens = after_first t e }
