-- The keys of nodes and entries differ.
use Rattle.std.proofs.Common.{◌≡◌, ℕ, List, ◌∷◌, Option, Some, None, ap, arith, get_or}
use Rattle.std.specs.Prelude.{codes}
use Rattle.json.specs.Token as json'
use Rattle.json.specs.Token.{Token}
use Rattle.kdl_text.specs.Chars.{Text}
use Rattle.kdl_json.specs.Form.{member_tokens}
use Rattle.kdl_json.specs.Keys.{NotKey}

-- tokens that begin with another key do not begin with this one
pub other_key : (j k : List ℕ) (ts : List Token) → (j ≡ k → ⊥) → NotKey k (json'.key j ∷ ts)
other_key j k ts n = λ us e. let same : j ≡ k = cc in n same

pub name_type : codes "type" ≡ codes "name" → ⊥
name_type e = absurd (omega (arith, ap (λ (l : List ℕ). get_or l 0 0) e))

pub name_value : codes "value" ≡ codes "name" → ⊥
name_value e = absurd (omega (arith, ap (λ (l : List ℕ). get_or l 0 0) e))

pub type_value : codes "value" ≡ codes "type" → ⊥
type_value e = absurd (omega (arith, ap (λ (l : List ℕ). get_or l 0 0) e))

pub type_entries : codes "entries" ≡ codes "type" → ⊥
type_entries e = absurd (omega (arith, ap (λ (l : List ℕ). get_or l 0 0) e))

-- the name of an entry does not follow
pub no_name : (o : Option Text) (ts : List Token) → NotKey (codes "name") (member_tokens (codes "type") o (json'.key (codes "value") ∷ ts))
no_name None ts = other_key (codes "value") (codes "name") ts name_value
no_name (Some s) ts = other_key (codes "type") (codes "name") _ name_type
