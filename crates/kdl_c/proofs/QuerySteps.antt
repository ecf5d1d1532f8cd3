-- The one fault of a text that is not a query.
use Rattle.std.proofs.Common.{arith, refl, ◌≡◌, ◌<◌, ◌^◌, ◌-◌, ◌++◌, ◌∷◌, [], ◌∙◌, ℕ, List, ap, length, slice_set}
use Rattle.c_calls.specs.declared.faults.KdlFault.{KdlFault}
use Rattle.c_calls.specs.Strings.{HasPut}
use Rattle.c_calls.specs.Listed.{AreListed, Fault}
use Rattle.c_calls.specs.Reading.{AreFaultsAs}
use Rattle.kdl_c.specs.Queries.{AreFaultsOfKind}
use Rattle.c_calls.proofs.ListedSteps.{listed_more, listed_none}

abbrev pub row_of : (f : Fault) (start len : ℕ) → KdlFault
row_of f start len = record { start = f.span.offset; len = f.span.len; message_start = start; message_len = len }

pub listed_one : (f : Fault) (out out' : List KdlFault) (s s' : List ℕ) (u start len : ℕ) → length s < 2 ^ 64 - 1
    → start ≡ 0 → len ≡ length f.message → out' ≡ slice_set out 0 (row_of f start len)
    → ((before : List ℕ) (ts : List (List ℕ)) → HasPut before ts s 0 → HasPut before (ts ++ f.message ∷ []) s' u)
    → AreListed (f ∷ []) out out' 1 s s' u
listed_one f out out' s s' u start len small e g row put =
    listed_more [] f out out out' 0 s s s' 0 u small (listed_none out s small)
    (row ∙ ap (λ (n : ℕ). slice_set out 0 (row_of f n len)) e ∙ ap (λ (n : ℕ). slice_set out 0 (row_of f 0 n)) g) put

-- a write past the end of no rows
pub none_set : (out : List KdlFault) (row : KdlFault) → length out ≡ 0 → out ≡ slice_set out 0 row
none_set [] row e = refl
none_set (r ∷ out) row e = absurd (omega (arith, e))

-- the faults of a text of another kind
pub as_other : (kind : ℕ) (text : List ℕ) (fs : List Fault) → (kind ≡ 4 → ⊥) → AreFaultsAs kind text fs → AreFaultsOfKind kind text fs
as_other kind text fs other h = (λ e. absurd (other e), λ _. h)
