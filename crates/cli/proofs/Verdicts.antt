-- What a check of a file says of its text.
use Rattle.std.proofs.Common.{◌≡◌, ◌⊎◌, ℕ, List, Some, IsUtf8, inl, inr, refl, subst}
use Rattle.cli_world.specs.Acts.{Does, Effect, Happens}
use Rattle.cli_world.specs.Acts.Acts.{acts, lost, refuses}
use Rattle.cli_world.specs.Acts.Does.{does, memory}
use Rattle.cli_world.specs.Acts.Effect.{prints}
use Rattle.cli_world.specs.Acts.Happens.{printed, unprinted}
use Rattle.cli_world.specs.Files.{Has}
use Rattle.cli_world.specs.Seen.{Seen}
use Rattle.cli_world.specs.declared.status.Status.TheVariants.{Done, Found, Failed}
use Rattle.cli_world.specs.declared.tally.Tally.{Tally}
use Rattle.cli.specs.Checks.{Checks, ChecksFile, IsSound, PrintsNotUtf8}
use Rattle.cli.specs.declared.report.Style.{Style}

-- what is printed has the status given, or the run failed
printed_status : (name bytes : List ℕ) (old new : Seen) (u t : Tally) → Happens name old new (prints bytes u) t → (t.status ≡ u.status) ⊎ (t.status ≡ Failed)
printed_status name bytes old new u _ (printed p) = inl refl
printed_status name bytes old new u _ (unprinted p) = inr refl

-- bytes that are not UTF-8 do not end with `Done`
bad_not_done : (style : Style) (name bytes : List ℕ) (old new : Seen) (t : Tally) → Does (PrintsNotUtf8 style name bytes) name old new t → t.status ≡ Done → ⊥
bad_not_done style name bytes old new t (does {e} (error, bad, p) h) is =
    elim (printed_status name _ old new _ t (subst (λ (x : Effect). Happens name old new x t) p h)) [ inl q ↦ cc | inr q ↦ cc ]
bad_not_done style name bytes old new _ (memory r) is = cc

-- a text for which all is well is a document
sound : (style : Style) (name text : List ℕ) (old new : Seen) (t : Tally) → Does (Checks style name text) name old new t → t.status ≡ Done → IsSound text
sound style name text old new t (does {e} (inl (x, p)) h) is = x
sound style name text old new t (does {e} (inr (error, f, p)) h) is =
    elim (printed_status name _ old new _ t (subst (λ (x : Effect). Happens name old new x t) p h)) [ inl q ↦ absurd (cc) | inr q ↦ absurd (cc) ]
sound style name text old new _ (memory r) is = absurd (cc)

-- a text in which something is found is no document
faulty : (style : Style) (name text : List ℕ) (old new : Seen) (t : Tally) → Does (Checks style name text) name old new t → t.status ≡ Found → IsSound text → ⊥
faulty style name text old new t (does {e} (inl (x, p)) h) is s =
    elim (printed_status name _ old new _ t (subst (λ (x : Effect). Happens name old new x t) p h)) [ inl q ↦ cc | inr q ↦ cc ]
faulty style name text old new t (does {e} (inr (error, f, p)) h) is s = f.0 s.0 s.1
faulty style name text old new _ (memory r) is s = cc

-- if all is well with a file, its text is a document
pub done_is_sound : (style : Style) (name : List ℕ) (old new : Seen) (t : Tally) → ChecksFile style name old new t → t.status ≡ Done → (text : List ℕ) × Has old.files name text × IsSound text
done_is_sound style name old new t (acts {text} has u d) is = (text, has, sound style name text old new t d is)
done_is_sound style name old new t (refuses {bytes} has bad d) is = absurd (bad_not_done style name bytes old new t d is)
done_is_sound style name old new _ (lost l) is = absurd (cc)

-- if something is found in a file, its text is no document
pub found_is_faulty : (style : Style) (name text : List ℕ) (old new : Seen) (t : Tally) → ChecksFile style name old new t → t.status ≡ Found → old.files name ≡ Some text → IsUtf8 text → IsSound text → ⊥
found_is_faulty style name text old new t (acts {text = b} has u d) is e utf8 s = faulty style name b old new t d is (subst IsSound (has text e) s)
found_is_faulty style name text old new t (refuses {bytes} has bad d) is e utf8 s = bad (subst IsUtf8 (has text e) utf8)
found_is_faulty style name text old new _ (lost l) is e utf8 s = cc
