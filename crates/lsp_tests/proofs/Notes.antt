-- Notes at their places.
use Rattle.std.proofs.Common.{arith, ◌≡◌, ℕ, zero, suc, ◌<◌, List, [], ◌∷◌, ◌++◌, ap, length, map, refl, slice_index_or, take}
use Rattle.lsp.specs.Messages.{TextTells}
use Rattle.lsp_documents.specs.Notes.{Note, Texts, after}
use Rattle.lsp_tests.specs.Told.{TellAll, all_after}
use Rattle.lsp_text.specs.declared.position.Encoding.{Encoding}

-- the message at a place tells the note at that place
pub tells_at : {A : Type 0} (f : A → List ℕ) (ms : List A) (ns : List Note) (i : ℕ) (d : A) → i < length ms → TellAll (map f ms) ns
    → (n : Note) × TextTells (f (slice_index_or ms i d)) n × (take (suc i) ns ≡ take i ns ++ n ∷ [])
tells_at f [] ns i d inside all = absurd (omega (arith, inside))
tells_at f (x ∷ ms) [] i d inside all = elim all [ ]
tells_at f (x ∷ ms) (n ∷ ns) zero d inside all = (n, all.0, refl)
tells_at f (x ∷ ms) (n ∷ ns) (suc i) d inside all =
    let later = tells_at f ms ns i d (omega (arith, inside)) all.1 in
    (later.0, later.1, ap (λ w. n ∷ w) later.2)

-- there are as many notes as messages
pub as_many : {A : Type 0} (f : A → List ℕ) (ms : List A) (ns : List Note) → TellAll (map f ms) ns → length ns ≡ length ms
as_many f [] [] all = refl
as_many f [] (n ∷ ns) all = elim all [ ]
as_many f (x ∷ ms) [] all = elim all [ ]
as_many f (x ∷ ms) (n ∷ ns) all = ap suc (as_many f ms ns all.1)

-- the texts after one more note
pub after_one_more : (e : Encoding) (ns : List Note) (n : Note) (texts : Texts) → all_after e (ns ++ n ∷ []) texts ≡ after e n (all_after e ns texts)
after_one_more e [] n texts = refl
after_one_more e (m ∷ ns) n texts = after_one_more e ns n (after e m texts)
