-- What does not happen.
use Rattle.std.proofs.Common.{◌≡◌, ◌∙◌, ℕ, ◌<◌, List, Some, arith, false, inl, inr, length, refl, sym}
use Rattle.watched.proofs.Refuted.{not_given_or_cut}
use Rattle.watched.specs.Streams.{Gets, Stream}
use Rattle.cli_world.specs.Acts.{Acts, Does, Effect, Happens, tally_of}
use Rattle.cli_world.specs.Acts.Acts.{acts, lost, refuses}
use Rattle.cli_world.specs.Acts.Does.{does, memory}
use Rattle.cli_world.specs.Acts.Effect.{prints, replaces, reports}
use Rattle.cli_world.specs.Acts.Happens.{printed, unprinted, reported, replaced, unreplaced}
use Rattle.cli_world.specs.Seen.{FilesStay, Seen, problem}
use Rattle.cli_world.specs.declared.status.Status.{Status}
use Rattle.cli_world.specs.declared.status.Status.TheVariants.{Done}
use Rattle.cli_world.specs.declared.tally.Tally.{Tally}

-- a stream that holds what it held was not given bytes
stays : (bytes held : List ℕ) (s : Stream) → 0 < length bytes → s.bytes ≡ Some held → s.failed ≡ false → Gets bytes s s → ⊥
stays bytes held s some is whole g = not_given_or_cut bytes held s s some is is whole g

-- nothing is not printed
pub nothing_not_printed : (name bytes held : List ℕ) (s : Seen) (t u : Tally) → 0 < length bytes → s.out.bytes ≡ Some held → s.out.failed ≡ false
    → Happens name s s (prints bytes t) u → ⊥
nothing_not_printed name bytes held s t _ some is whole (printed p) = stays bytes held s.out some is whole p.out
nothing_not_printed name bytes held s t _ some is whole (unprinted p) = stays bytes held s.out some is whole (inr p.out)

-- nothing is not reported
pub nothing_not_reported : (name text held : List ℕ) (s : Seen) (c : Status) (u : Tally) → 0 < length text → s.err.bytes ≡ Some held → s.err.failed ≡ false
    → Happens name s s (reports text c) u → ⊥
nothing_not_reported name text held s c _ some is whole (reported r) = stays text held s.err some is whole r.err

-- nothing is not replaced
pub nothing_not_replaced : (name bytes was held : List ℕ) (s : Seen) (u : Tally) → s.files name ≡ Some was → (was ≡ bytes → ⊥)
    → s.err.bytes ≡ Some held → s.err.failed ≡ false → Happens name s s (replaces bytes) u → ⊥
nothing_not_replaced name bytes was held s _ has differs is whole (replaced r) = let e = sym has ∙ r.files.this was has in differs cc
nothing_not_replaced name bytes was held s _ has differs is whole (unreplaced l) = stays (problem name l.why) held s.err (omega arith) is whole l.reports.err

-- an effect that can't fail has its own status and count
pub own_tally : (name : List ℕ) (e : Effect) (old new : Seen) (t : Tally) → new.out.failed ≡ false → old.may_fail name ≡ false
    → Happens name old new e t → t ≡ tally_of e
own_tally name _ old new _ whole safe (printed p) = refl
own_tally name _ old new _ whole safe (unprinted p) = let h = p.out.1 in absurd cc
own_tally name _ old new _ whole safe (reported r) = refl
own_tally name _ old new _ whole safe (replaced r) = refl
own_tally name _ old new _ whole safe (unreplaced l) = let h = l.may_fail in absurd cc

-- an effect changes no other file
pub happens_others : (name other : List ℕ) (e : Effect) (old new : Seen) (t : Tally) → Happens name old new e t → (other ≡ name → ⊥) → new.files other ≡ old.files other
happens_others name other _ old new _ (printed p) is = p.files.0 other
happens_others name other _ old new _ (unprinted p) is = p.files.0 other
happens_others name other _ old new _ (reported r) is = r.files.0 other
happens_others name other _ old new _ (replaced r) is = elim (r.files.others other) [ inl e ↦ e | inr e ↦ absurd (is e.0) ]
happens_others name other _ old new _ (unreplaced l) is = l.reports.files.0 other

-- an effect that does not end with `Done` changes no file
pub happens_all : (name : List ℕ) (e : Effect) (old new : Seen) (t : Tally) → Happens name old new e t → (t.status ≡ Done → ⊥) → FilesStay old new
happens_all name _ old new _ (printed p) is = p.files
happens_all name _ old new _ (unprinted p) is = p.files
happens_all name _ old new _ (reported r) is = r.files
happens_all name _ old new _ (replaced r) is = absurd (is refl)
happens_all name _ old new _ (unreplaced l) is = l.reports.files

-- the same of what is done with a file
pub does_others : (P : Effect → Type 0) (name other : List ℕ) (old new : Seen) (t : Tally) → Does P name old new t → (other ≡ name → ⊥) → new.files other ≡ old.files other
does_others P name other old new _ (does p h) is = happens_others name other _ old new _ h is
does_others P name other old new _ (memory r) is = r.files.0 other

pub does_all : (P : Effect → Type 0) (name : List ℕ) (old new : Seen) (t : Tally) → Does P name old new t → (t.status ≡ Done → ⊥) → FilesStay old new
does_all P name old new _ (does p h) is = happens_all name _ old new _ h is
does_all P name old new _ (memory r) is = r.files

pub others_stay : (act not_utf8 : List ℕ → Effect → Type 0) (name other : List ℕ) (old new : Seen) (t : Tally) → Acts act not_utf8 name old new t → (other ≡ name → ⊥) → new.files other ≡ old.files other
others_stay act not_utf8 name other old new t (acts {text} has utf8 d) is = does_others (act text) name other old new t d is
others_stay act not_utf8 name other old new t (refuses {bytes} has utf8 d) is = does_others (not_utf8 bytes) name other old new t d is
others_stay act not_utf8 name other old new _ (lost l) is = l.reports.files.0 other

pub all_stay : (act not_utf8 : List ℕ → Effect → Type 0) (name : List ℕ) (old new : Seen) (t : Tally) → Acts act not_utf8 name old new t → (t.status ≡ Done → ⊥) → FilesStay old new
all_stay act not_utf8 name old new t (acts {text} has utf8 d) is = does_all (act text) name old new t d is
all_stay act not_utf8 name old new t (refuses {bytes} has utf8 d) is = does_all (not_utf8 bytes) name old new t d is
all_stay act not_utf8 name old new _ (lost l) is = l.reports.files
