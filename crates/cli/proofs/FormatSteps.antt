-- What is done with texts that are formatted, and what becomes of their files.
use Rattle.std.proofs.Common.{◌≡◌, ◌∙◌, ◌⊎◌, ◌∷◌, [], List, Some, ap, chars, false, inl, inr, lit<, refl, subst, sym, ℕ}
use Rattle.std.proofs.lemmas.List.Elements.{Contains-append_left, Contains-append_right}
use Rattle.std.proofs.lemmas.Str.{chars-nil}
use Rattle.kdl_path.specs.Failures.{TextFails}
use Rattle.kdl_report.specs.Hunks.{IsDiff}
use Rattle.kdl_text.specs.declared.error.KdlError.{KdlError}
use Rattle.cli_world.proofs.Acting.{Does-map, nothing_happens}
use Rattle.cli_world.proofs.Refuted.{does_all}
use Rattle.cli_world.specs.Acts.{Does, Each, Effect, Happens, tally_of}
use Rattle.cli_world.specs.Acts.Acts.{acts, lost, refuses}
use Rattle.cli_world.specs.Acts.Does.{does, memory}
use Rattle.cli_world.specs.Acts.Each.{none, more}
use Rattle.cli_world.specs.Acts.Effect.{prints, replaces}
use Rattle.cli_world.specs.Acts.Happens.{printed, unprinted, reported, replaced, unreplaced}
use Rattle.cli_world.specs.Seen.{Seen, shown_name}
use Rattle.cli_world.specs.Tallies.{plain}
use Rattle.cli_world.specs.declared.status.Status.{Status}
use Rattle.cli_world.specs.declared.status.Status.TheVariants.{Done, Found}
use Rattle.cli_world.specs.declared.tally.Tally.{Tally}
use Rattle.cli.proofs.AskLaws.{bad_not_done, done_printed, done_replaced, got, nothing_appended, some_same}
use Rattle.cli.specs.Formats.{ChangesNamed, Formats, FormatsFile, FormatsFiles, IsChange, IsDelivery, IsNoChange, ShowsLines}
use Rattle.cli.specs.Formatted.{IsFormatted}
use Rattle.cli.specs.Reports.{ReportsError, ReportsNotUtf8}
use Rattle.cli.specs.declared.files.Job.{Job}
use Rattle.cli.specs.declared.files.Mode.{Mode}
use Rattle.cli.specs.declared.files.Mode.TheVariants.{Check, Diff, Print, Replace}

-- ---- what is done with a text

-- one of these effects takes place, by what the mode is
pub does_in : (P : Mode → Effect → Type 0) (mode given : Mode) (name : List ℕ) (old new : Seen) (t : Tally) → mode ≡ given → Does (P given) name old new t → Does (P mode) name old new t
does_in P mode given name old new t is d = subst (λ (m : Mode). Does (P m) name old new t) (sym is) d

-- a text is printed
pub does_print : (name bytes text : List ℕ) (old new : Seen) (s : Status) (t r : Tally) → bytes ≡ text → t ≡ plain s → Happens name old new (prints bytes t) r → Does (λ e. e ≡ prints text (plain s)) name old new r
does_print name bytes text old new s t r same e h = does (cc) h

-- the lines that differ are printed
pub does_show : (name old new shown lines bytes : List ℕ) (before after : Seen) (t r : Tally) → shown ≡ shown_name name → IsDiff shown old new lines → bytes ≡ lines → t ≡ plain Found → Happens name before after (prints bytes t) r
    → Does (ShowsLines name old new) name before after r
does_show name old new shown lines bytes before after t r is diff same e h = does (lines, subst (λ (n : List ℕ). IsDiff n old new lines) is diff, (cc)) h

-- nothing is done
pub does_nothing : (mode : Mode) (name text : List ℕ) (s : Seen) (t : Tally) → (mode ≡ Check) ⊎ ((mode ≡ Diff) ⊎ (mode ≡ Replace)) → t ≡ plain Done → Does (IsNoChange mode text) name s s t
does_nothing Print name text s t (inl is) e = absurd (cc)
does_nothing Print name text s t (inr (inl is)) e = absurd (cc)
does_nothing Print name text s t (inr (inr is)) e = absurd (cc)
does_nothing Check name text s t is e = does (ap (prints []) e) (nothing_happens name s t)
does_nothing Diff name text s t is e = does (ap (prints []) e) (nothing_happens name s t)
does_nothing Replace name text s t is e = does (ap (prints []) e) (nothing_happens name s t)

-- a text is delivered
pub delivers_same : (mode : Mode) (name old text : List ℕ) (before after : Seen) (t : Tally) → old ≡ text → Does (IsNoChange mode text) name before after t → Does (IsDelivery mode name old text) name before after t
delivers_same mode name old text before after t same d = Does-map (IsNoChange mode text) (IsDelivery mode name old text) (λ e h. inl (same, h)) name before after t d

pub delivers_other : (mode : Mode) (name old text : List ℕ) (before after : Seen) (t : Tally) → (old ≡ text → ⊥) → Does (IsChange mode name old text) name before after t → Does (IsDelivery mode name old text) name before after t
delivers_other mode name old text before after t other d = Does-map (IsChange mode name old text) (IsDelivery mode name old text) (λ e h. inr (other, h)) name before after t d

-- a formatted text is delivered, or faults are reported
pub formats_delivered : (job : Job) (name text out bytes : List ℕ) (before after : Seen) (t : Tally) → IsFormatted job.settings (chars text) (chars out) → bytes ≡ out → Does (IsDelivery job.mode name text bytes) name before after t
    → Does (Formats job name text) name before after t
formats_delivered job name text out bytes before after t f same d =
    let f' = subst (λ (o : List ℕ). IsFormatted job.settings (chars text) (chars o)) (sym same) f in
    Does-map (IsDelivery job.mode name text bytes) (Formats job name text) (λ e h. inl (bytes, f', h)) name before after t d

pub formats_reported : (job : Job) (name text : List ℕ) (error : KdlError) (before after : Seen) (t : Tally) → TextFails text error → Does (ReportsError job.style name text error) name before after t → Does (Formats job name text) name before after t
formats_reported job name text error before after t f d = Does-map (ReportsError job.style name text error) (Formats job name text) (λ e h. inr (error, f, h)) name before after t d

-- ---- the files that change

-- what replaces a file is a change in that mode
replaces_in : (mode : Mode) (name old new bytes : List ℕ) → IsDelivery mode name old new (replaces bytes) → mode ≡ Replace
replaces_in Print name old new bytes (inl (same, e)) = absurd cc
replaces_in Print name old new bytes (inr (other, e)) = absurd cc
replaces_in Check name old new bytes (inl (same, e)) = absurd cc
replaces_in Check name old new bytes (inr (other, e)) = absurd cc
replaces_in Diff name old new bytes (inl (same, e)) = absurd cc
replaces_in Diff name old new bytes (inr (other, lines)) = let e = lines.2 in absurd cc
replaces_in Replace name old new bytes d = refl

replaces_only : (job : Job) (name text bytes : List ℕ) → Formats job name text (replaces bytes) → job.mode ≡ Replace
replaces_only job name text bytes (inl (out, f, d)) = replaces_in job.mode name text out bytes d
replaces_only job name text bytes (inr r) = let e = r.2 in absurd cc

-- each file is as before, or it is this one, which is replaced
abbrev Changes : Mode → List ℕ → Seen → Seen → List ℕ → Type 0
Changes mode name old new p = (new.files p ≡ old.files p) ⊎ ((p ≡ name) × (mode ≡ Replace))

effect_changes : (job : Job) (name text : List ℕ) (old new : Seen) (e : Effect) (t : Tally) → Formats job name text e → Happens name old new e t → (p : List ℕ) → Changes job.mode name old new p
effect_changes job name text old new _ _ f (printed r) p = inl (r.files.0 p)
effect_changes job name text old new _ _ f (unprinted r) p = inl (r.files.0 p)
effect_changes job name text old new _ _ f (reported r) p = inl (r.files.0 p)
effect_changes job name text old new _ _ f (replaced {bytes} r) p =
    elim (r.files.others p) [ inl h ↦ inl h | inr h ↦ inr (h.0, replaces_only job name text bytes f) ]
effect_changes job name text old new _ _ f (unreplaced r) p = inl (r.reports.files.0 p)

file_changes : (job : Job) (name : List ℕ) (old new : Seen) (t : Tally) → FormatsFile job name old new t → (p : List ℕ) → Changes job.mode name old new p
file_changes job name old new _ (acts {text} has utf8 (does {e} {t} f h)) p = effect_changes job name text old new e t f h p
file_changes job name old new _ (acts has utf8 (memory r)) p = inl (r.files.0 p)
file_changes job name old new t (refuses {bytes} has bad d) p = inl ((does_all (ReportsNotUtf8 job.style name bytes) name old new t d (bad_not_done job.style name bytes old new t d)).0 p)
file_changes job name old new _ (lost l) p = inl (l.reports.files.0 p)

-- each file is as before, or it is one of these, which are replaced
each_changes : (job : Job) (names : List (List ℕ)) (old new : Seen) (ts : List Tally) → Each (FormatsFile job) names old new ts → ChangesNamed job.mode names old.files new.files
each_changes job _ _ _ _ none p = inl refl
each_changes job _ _ _ _ (more {names} {ts} {name} {t} {old} {mid} {new} fs f) p =
    elim (file_changes job name mid new t f p) [
      | inl h ↦ elim (each_changes job names old mid ts fs p) [ inl k ↦ inl (h ∙ k) | inr k ↦ inr (Contains-append_left names (name ∷ []) p k.0, k.1) ]
      | inr h ↦ inr (Contains-append_right names (name ∷ []) p (0, lit< tt, sym h.0), h.1)
    ]

pub changes_named : (job : Job) (names : List (List ℕ)) (old new : Seen) (status : Status) → FormatsFiles job names old new status → ChangesNamed job.mode names old.files new.files
changes_named job names old new status f = each_changes job names old new f.0 f.1

-- ---- what formatting is not

-- what prints a text while the output stays, and ends with `Done`, prints nothing
done_prints : (name text known : List ℕ) (old new : Seen) (e : Effect) (t : Tally) → old.out.bytes ≡ Some known → new.out.bytes ≡ Some known → new.out.failed ≡ false → Happens name old new e t
    → e ≡ prints text (plain Done) → t.status ≡ Done → text ≡ []
done_prints name text known old new e t was is works h e-is done =
    let p = done_printed name text old new t (subst (λ (x : Effect). Happens name old new x t) e-is h) done in
    nothing_appended known text (some_same (sym is ∙ got text known old new p.out was works))

-- what replaces a file that stays, and ends with `Done`, gives its text
done_replaces : (name text was : List ℕ) (old new : Seen) (e : Effect) (t : Tally) → old.files name ≡ Some was → new.files name ≡ Some was → Happens name old new e t → e ≡ replaces text → t.status ≡ Done → was ≡ text
done_replaces name text was old new e t before after h e-is done =
    let p = done_replaced name text old new t (subst (λ (x : Effect). Happens name old new x t) e-is h) done in
    some_same (sym after ∙ p.files.this was before)

-- what ends with `Done` has that status
own_status : (name : List ℕ) (old new : Seen) (e : Effect) (t : Tally) → Happens name old new e t → t.status ≡ Done → (tally_of e).status ≡ Done
own_status name old new _ _ (printed p) done = done
own_status name old new _ _ (unprinted u) done = absurd (cc)
own_status name old new _ _ (reported r) done = done
own_status name old new _ _ (replaced r) done = refl
own_status name old new _ _ (unreplaced r) done = absurd (cc)

-- what prints or reports with another status does not
not_done : (name : List ℕ) (old new : Seen) (e known : Effect) (t : Tally) → Happens name old new e t → e ≡ known → t.status ≡ Done → (tally_of known).status ≡ Done
not_done name old new e known t h is done = subst (λ (x : Effect). (tally_of x).status ≡ Done) is (own_status name old new e t h done)

-- where formatting makes no empty text of a text, and it is to be printed, something is printed
pub prints_something : (job : Job) (name was known : List ℕ) (old new : Seen) (t : Tally) → job.mode ≡ Print → old.files name ≡ Some was → (IsFormatted job.settings (chars was) [] → ⊥)
    → old.out.bytes ≡ Some known → new.out.bytes ≡ Some known → new.out.failed ≡ false → FormatsFile job name old new t → t.status ≡ Done → ⊥
prints_something job name was known old new _ mode is never before after works (acts {text} has utf8 (does {e} {t} (inl (out, f, d)) h)) done =
    let d' = subst (λ (m : Mode). IsDelivery m name text out e) mode d in
    let empty : out ≡ [] = elim d' [ inl k ↦ done_prints name out known old new e t before after works h k.1 done | inr k ↦ done_prints name out known old new e t before after works h k.1 done ] in
    let same : text ≡ was = sym (has was is) in
    never (subst (λ (x : List ℕ). IsFormatted job.settings (chars x) []) same (subst (λ (x : List ℕ). IsFormatted job.settings (chars text) x) (ap chars empty ∙ chars-nil) f))
prints_something job name was known old new _ mode is never before after works (acts {text} has utf8 (does {e} {t} (inr r) h)) done = let k = not_done name old new e _ t h r.2 done in cc
prints_something job name was known old new _ mode is never before after works (acts has utf8 (memory r)) done = absurd (cc)
prints_something job name was known old new t mode is never before after works (refuses {bytes} has bad d) done = bad_not_done job.style name bytes old new t d done
prints_something job name was known old new _ mode is never before after works (lost l) done = absurd (cc)

-- a change that is not printed, and ends with `Done`, is in the file
done_changes : (mode : Mode) (name was text : List ℕ) (old new : Seen) (e : Effect) (t : Tally) → (mode ≡ Print → ⊥) → old.files name ≡ Some was → new.files name ≡ Some was → IsChange mode name was text e → Happens name old new e t
    → t.status ≡ Done → was ≡ text
done_changes Print name was text old new e t other before after c h done = absurd (other refl)
done_changes Check name was text old new e t other before after c h done = let k = not_done name old new e _ t h c done in absurd (cc)
done_changes Diff name was text old new e t other before after c h done = let k = not_done name old new e _ t h c.2 done in absurd (cc)
done_changes Replace name was text old new e t other before after c h done = done_replaces name text was old new e t before after h c done

-- where formatting changes a text, and it is not to be printed, it ends with another status, or changes the file
pub changes_something : (job : Job) (name was : List ℕ) (old new : Seen) (t : Tally) → (job.mode ≡ Print → ⊥) → old.files name ≡ Some was → new.files name ≡ Some was → (IsFormatted job.settings (chars was) (chars was) → ⊥)
    → FormatsFile job name old new t → t.status ≡ Done → ⊥
changes_something job name was old new _ other before after never (acts {text} has utf8 (does {e} {t} (inl (out, f, d)) h)) done =
    let is : was ≡ text = has was before in
    let f' = subst (λ (x : List ℕ). IsFormatted job.settings (chars x) (chars out)) (sym is) f in
    let d' = subst (λ (x : List ℕ). IsDelivery job.mode name x out e) (sym is) d in
    let same : was ≡ out = elim d' [ inl k ↦ k.0 | inr k ↦ done_changes job.mode name was out old new e t other before after k.1 h done ] in
    never (subst (λ (x : List ℕ). IsFormatted job.settings (chars was) (chars x)) (sym same) f')
changes_something job name was old new _ other before after never (acts {text} has utf8 (does {e} {t} (inr r) h)) done = let k = not_done name old new e _ t h r.2 done in cc
changes_something job name was old new _ other before after never (acts has utf8 (memory r)) done = absurd (cc)
changes_something job name was old new t other before after never (refuses {bytes} has bad d) done = bad_not_done job.style name bytes old new t d done
changes_something job name was old new _ other before after never (lost l) done = absurd (cc)
