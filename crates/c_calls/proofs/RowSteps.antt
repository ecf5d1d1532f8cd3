-- One row more, after rows whose texts are in the strings.
use Rattle.std.proofs.Common.{arith, ◌≡◌, ℕ, ◌+◌, ◌<◌, ◌≤◌, List, [], ◌∷◌, ◌++◌, ap, ◌∙◌, sym, length, take, slice_index_or, slice_set}
use Rattle.std.specs.Prelude.{All}
use Rattle.std.proofs.lemmas.List.{take_more_set}
use mathlib.Core.Path.{subst}
use Rattle.std.proofs.lemmas.List.Elements.{All-nil, All-push}
use Rattle.c_calls.specs.Rows.{AreTold, AreWithin, IsTold}
use Rattle.c_calls.specs.Says.{IsWithin}
use Rattle.c_calls.specs.declared.faults.KdlFault.{KdlFault}
use Rattle.c_calls.specs.declared.row.KdlRow.{KdlRow}

pub wider : (n m : ℕ) → n ≤ m → (r : KdlRow) → IsWithin n r → IsWithin m r
wider n m k r w = (omega (arith, k, w.0), omega (arith, k, w.1), omega (arith, k, w.2))

pub pushed : (rows rows' : List KdlRow) (k k' : ℕ) (row : KdlRow) (ss ss' : List ℕ) (u u' : ℕ)
    → AreWithin rows k ss u → length ss' ≡ length ss → u ≤ u' → (u' ≤ length ss → IsWithin u' row)
    → length rows' ≡ length rows → (k' ≤ length rows → k' ≡ k + 1) → (k' ≤ length rows → rows' ≡ slice_set rows k row)
    → AreWithin rows' k' ss' u'
pushed rows rows' k k' row ss ss' u u' before same more within same_rows counted written = λ room fits.
    let r : k' ≤ length rows = omega (arith, room, same_rows) in
    let f : u' ≤ length ss = omega (arith, fits, same) in
    let step : k' ≡ k + 1 = counted r in
    let here : k < length rows = omega (arith, r, step) in
    let old : All (IsWithin u) (take k rows) = before (omega (arith, here)) (omega (arith, more, f)) in
    let wide : All (IsWithin u') (take k rows) = λ j d l. wider u u' more (slice_index_or (take k rows) j d) (old j d l) in
    let all : All (IsWithin u') (take k rows ++ row ∷ []) = All-push (IsWithin u') (take k rows) row wide (within f) in
    let whole : take k' rows' ≡ take k rows ++ row ∷ [] = ap (λ i. take i rows') step ∙ ap (take (k + 1)) (written r) ∙ take_more_set rows k row here in
    subst (All (IsWithin u')) (sym whole) all

-- one fault more
pub told_more : (text : List ℕ) (rows rows' : List KdlFault) (k : ℕ) (row : KdlFault) (ss ss' : List ℕ) (u u' : ℕ)
    → AreTold text rows k ss u → length ss' ≡ length ss → u ≤ u' → (u' ≤ length ss → IsTold text u' row)
    → length rows' ≡ length rows → (k < length rows → rows' ≡ slice_set rows k row)
    → AreTold text rows' (k + 1) ss' u'
told_more text rows rows' k row ss ss' u u' before same more told same_rows written = λ room fits.
    let here : k < length rows = omega (arith, room, same_rows) in
    let f : u' ≤ length ss = omega (arith, fits, same) in
    let old : All (IsTold text u) (take k rows) = before (omega (arith, here)) (omega (arith, more, f)) in
    let wide : All (IsTold text u') (take k rows) = λ j d l. let o = old j d l in (o.0, omega (arith, more, o.1)) in
    let all : All (IsTold text u') (take k rows ++ row ∷ []) = All-push (IsTold text u') (take k rows) row wide (told f) in
    let whole : take (k + 1) rows' ≡ take k rows ++ row ∷ [] = ap (take (k + 1)) (written here) ∙ take_more_set rows k row here in
    subst (All (IsTold text u')) (sym whole) all

pub none_told : (text : List ℕ) (rows : List KdlFault) (ss : List ℕ) (u : ℕ) → AreTold text rows 0 ss u
none_told text rows ss u = λ _ _. All-nil (IsTold text u)
