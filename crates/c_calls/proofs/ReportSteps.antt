-- One report more, after reports whose words are in the strings.
use Rattle.std.proofs.Common.{arith, ◌≡◌, ℕ, ◌+◌, ◌<◌, ◌≤◌, List, [], ◌∷◌, ◌++◌, ap, ◌∙◌, sym, length, take, slice_index_or, slice_set}
use Rattle.std.specs.Prelude.{All}
use Rattle.std.proofs.lemmas.List.{take_more_set}
use mathlib.Core.Path.{subst}
use Rattle.std.proofs.lemmas.List.Elements.{All-nil, All-push}
use Rattle.c_calls.specs.Reports.{AreReported, IsReported}
use Rattle.c_calls.specs.declared.reports.KdlReport.{KdlReport}

wider_report : (text : List ℕ) (n m : ℕ) → n ≤ m → (r : KdlReport) → IsReported text n r → IsReported text m r
wider_report text n m k r w = record { piece = w.piece; message = omega (arith, k, w.message); label = omega (arith, k, w.label); help = omega (arith, k, w.help) }

pub reported_more : (text : List ℕ) (rows rows' : List KdlReport) (k : ℕ) (row : KdlReport) (ss ss' : List ℕ) (u u' : ℕ)
    → AreReported text rows k ss u → length ss' ≡ length ss → u ≤ u' → (u' ≤ length ss → IsReported text u' row)
    → length rows' ≡ length rows → (k < length rows → rows' ≡ slice_set rows k row)
    → AreReported text rows' (k + 1) ss' u'
reported_more text rows rows' k row ss ss' u u' before same more told same_rows written = λ room fits.
    let here : k < length rows = omega (arith, room, same_rows) in
    let f : u' ≤ length ss = omega (arith, fits, same) in
    let old : All (IsReported text u) (take k rows) = before (omega (arith, here)) (omega (arith, more, f)) in
    let wide : All (IsReported text u') (take k rows) = λ j d l. wider_report text u u' more (slice_index_or (take k rows) j d) (old j d l) in
    let all : All (IsReported text u') (take k rows ++ row ∷ []) = All-push (IsReported text u') (take k rows) row wide (told f) in
    let whole : take (k + 1) rows' ≡ take k rows ++ row ∷ [] = ap (take (k + 1)) (written here) ∙ take_more_set rows k row here in
    subst (All (IsReported text u')) (sym whole) all

pub none_reported : (text : List ℕ) (rows : List KdlReport) (ss : List ℕ) (u : ℕ) → AreReported text rows 0 ss u
none_reported text rows ss u = λ _ _. All-nil (IsReported text u)
