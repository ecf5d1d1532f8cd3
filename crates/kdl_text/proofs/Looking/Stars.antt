-- Pieces in a row.
use Rattle.std.proofs.Common.{◌≡◌, refl, subst}
use Rattle.kdl_text.specs.Chars.{Text, Star}
use Rattle.kdl_text.specs.Chars.Star.{none, more}

-- a text begins with one R at most
abbrev pub Det : (Text → Text → Type 0) → Type 0
Det R = (s r t : Text) → R s r → R s t → r ≡ t

pub snoc : {R : Text → Text → Type 0} {s t r : Text} → Star R s t → R t r → Star R s r
snoc none q = more q none
snoc (more p ps) q = more p (snoc ps q)

pub join : {R : Text → Text → Type 0} {s t r : Text} → Star R s t → Star R t r → Star R s r
join none q = q
join (more p ps) q = more p (join ps q)

pub star_map : {R Q : Text → Text → Type 0} {s r : Text} → ((u v : Text) → R u v → Q u v) → Star R s r → Star Q s r
star_map f none = none
star_map f (more p ps) = more (f _ _ p) (star_map f ps)

-- two runs from one text: the one that cannot go on is as long as the other
pub meets : {R : Text → Text → Type 0} {s t r : Text} → Det R → Star R s t → Star R s r → ((u : Text) → R r u → ⊥) → Star R t r
meets det none q stuck = q
meets det (more p ps) none stuck = absurd (stuck _ p)
meets {R = R} {r = r} det (more p ps) (more q qs) stuck = meets det ps (subst (λ x. Star R x r) (det _ _ _ q p) qs) stuck

-- a run that begins where none begins
pub stops : {R : Text → Text → Type 0} {t r : Text} → Star R t r → ((u : Text) → R t u → ⊥) → t ≡ r
stops none stuck = refl
stops (more p ps) stuck = absurd (stuck _ p)

-- the longest run is one
pub longest_det : {R : Text → Text → Type 0} {s t r : Text} → Det R → Star R s t → ((u : Text) → R t u → ⊥) → Star R s r → ((u : Text) → R r u → ⊥) → t ≡ r
longest_det det p x q y = stops (meets det p q y) x
