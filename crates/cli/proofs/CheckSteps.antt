-- Files that are checked, one after another.
use Rattle.std.proofs.Common.{◌≡◌, ◌∙◌, ℕ, ◌+◌, ◌-◌, ◌^◌, max, min, List, [], ◌∷◌, ◌++◌, Bool, true, false, cond, if◌then◌else◌, ap, arith, inl, inr, length, nat_lt, refl, subst, sym}
use Rattle.std.proofs.lemmas.List.Sums.{sum_by-append}
use Rattle.cli_world.proofs.Acting.{Does-map, counted-push, does_this, each_more, nothing_happens, worst-push}
use Rattle.cli_world.specs.Acts.{Does, Each, Happens, output}
use Rattle.cli_world.specs.Acts.Each.{none}
use Rattle.cli_world.specs.Acts.Effect.{prints}
use Rattle.cli_world.specs.Seen.{Seen}
use Rattle.cli_world.specs.Statuses.{code_of}
use Rattle.cli_world.specs.Tallies.{plain, worst}
use Rattle.cli_world.specs.declared.status.Status.{Status}
use Rattle.cli_world.specs.declared.status.Status.TheVariants.{Done, Found}
use Rattle.cli_world.specs.declared.tally.Tally.{Tally}
use Rattle.kdl_text.specs.declared.error.KdlError.{KdlError}
use Rattle.cli.specs.Checks.{Checks, ChecksFile, ChecksFiles, IsSound, PrintsError, PrintsNotUtf8, PrintsTotals, all_faults, faulty_files, totals, totals_line}
use Rattle.kdl_path.specs.Failures.{TextFails}
use Rattle.cli.specs.Reports.{IsNotUtf8, faults_report, front}
use Rattle.cli.specs.declared.check.Totals.{Totals}
use Rattle.cli.specs.declared.report.Form.{Form}
use Rattle.cli.specs.declared.report.Form.TheVariants.{Human, Short, Json}
use Rattle.cli.specs.declared.report.Style.{Style}

-- the faults of an error are printed
pub faults_printed : (style : Style) (name text out : List ℕ) (error : KdlError) (count : ℕ) (old new : Seen) (t : Tally) → out ≡ faults_report style name text error.diagnostics.items
    → count ≡ length error.diagnostics.items → Happens name old new (prints out (record { status = Found; count = count })) t → Does (PrintsError style name text error) name old new t
faults_printed style name text out error count old new t e n h =
    does_this (PrintsError style name text error) name old new (prints out (record { status = Found; count = count })) t (rw (e, n) refl) h

-- that bytes are not UTF-8 is printed
pub bad_printed : (style : Style) (name bytes text : List ℕ) (error : KdlError) (old new : Seen) (t : Tally) → text ≡ front bytes → IsNotUtf8 text error → Does (PrintsError style name text error) name old new t
    → Does (PrintsNotUtf8 style name bytes) name old new t
bad_printed style name bytes text error old new t same bad d =
    Does-map (PrintsError style name text error) (PrintsNotUtf8 style name bytes)
    (λ e p. (error, subst (λ (x : List ℕ). IsNotUtf8 x error) same bad, subst (λ (x : List ℕ). PrintsError style name x error e) same p)) name old new t d

-- nothing is done with a document
pub sound_checked : (style : Style) (name text : List ℕ) (s : Seen) (t : Tally) → IsSound text → t ≡ plain Done → Does (Checks style name text) name s s t
sound_checked style name text s t x e =
    does_this (Checks style name text) name s s (prints [] (plain Done)) t (inl (x, refl)) (subst (λ (u : Tally). Happens name s s (prints [] (plain Done)) u) (sym e) (nothing_happens name s (plain Done)))

-- the faults of a text that is no document are printed
pub faulty_checked : (style : Style) (name text : List ℕ) (error : KdlError) (old new : Seen) (t : Tally) → TextFails text error → Does (PrintsError style name text error) name old new t → Does (Checks style name text) name old new t
faulty_checked style name text error old new t f d = Does-map (PrintsError style name text error) (Checks style name text) (λ e p. inr (error, f, p)) name old new t d

-- nothing is printed on all faults
pub no_totals : (form : Form) (faults files : ℕ) (name : List ℕ) (s : Seen) (t : Tally) → totals form faults files ≡ [] → t ≡ plain Done → Does (PrintsTotals form faults files) name s s t
no_totals form faults files name s t n e =
    does_this (PrintsTotals form faults files) name s s (prints [] (plain Done)) t (rw n refl) (subst (λ (u : Tally). Happens name s s (prints [] (plain Done)) u) (sym e) (nothing_happens name s (plain Done)))

pub none_faulty : (form : Form) (faults files : ℕ) → files ≡ 0 → totals form faults files ≡ []
none_faulty Json faults files e = refl
none_faulty Human faults files e = rw e refl
none_faulty Short faults files e = rw e refl

pub as_objects : (form : Form) (faults files : ℕ) → form ≡ Json → totals form faults files ≡ []
as_objects form faults files e = rw e refl

-- the line on all faults is printed
pub totals_printed : (form : Form) (faults files : ℕ) (name line : List ℕ) (old new : Seen) (t u : Tally) → totals form faults files ≡ totals_line faults files → line ≡ totals_line faults files → u ≡ plain Done
    → Happens name old new (prints line u) t → Does (PrintsTotals form faults files) name old new t
totals_printed form faults files name line old new t u is e p h =
    does_this (PrintsTotals form faults files) name old new (prints line u) t (rw (is, e, p) refl) h

pub some_faulty : (form : Form) (faults files : ℕ) → (files ≡ 0 → ⊥) → (form ≡ Json → ⊥) → totals form faults files ≡ totals_line faults files
some_faulty Json faults files n j = absurd (j refl)
some_faulty Human faults files n j = search arith
some_faulty Short faults files n j = search arith

-- the faults of one more file
all_faults-push : (ts : List Tally) (t : Tally) → all_faults (ts ++ (t ∷ [])) ≡ min (all_faults ts + t.count) (2 ^ 64 - 1)
all_faults-push ts t = let h = counted-push ts t in omega (arith, h)

one_more : (b : Bool) (n : ℕ) → n + (0 + cond b 1 0) ≡ (if b then n + 1 else n)
one_more true n = omega arith
one_more false n = omega arith

faulty_files-push : (ts : List Tally) (t : Tally) → faulty_files (ts ++ (t ∷ [])) ≡ (if nat_lt 0 t.count then faulty_files ts + 1 else faulty_files ts)
faulty_files-push ts t = sum_by-append (λ x. cond (nat_lt 0 x.count) 1 0) ts (t ∷ []) ∙ one_more (nat_lt 0 t.count) (faulty_files ts)

-- files that are checked, with what is known of them so far
pub record Checked (style : Style) (names : List (List ℕ)) (old new : Seen) (status : Status) (so_far : Totals) : Type 0 where
  pub tallies : List Tally
  pub each : Each (ChecksFile style) names old new tallies
  pub worst_of : code_of status ≡ worst tallies
  pub faults : so_far.faults ≡ all_faults tallies
  pub files : so_far.files ≡ faulty_files tallies

-- no file
pub none_checked : (style : Style) (s : Seen) → Checked style [] s s Done (record { faults = 0; files = 0 })
none_checked style s = record { tallies = []; each = none; worst_of = refl; faults = refl; files = refl }

-- one more file
pub more_checked : (style : Style) (names names' : List (List ℕ)) (name : List ℕ) (old mid new : Seen) (status status' : Status) (so_far so_far' : Totals) (t : Tally) → Checked style names old mid status so_far
    → ChecksFile style name mid new t → names' ≡ names ++ (name ∷ []) → code_of status' ≡ max (code_of status) (code_of t.status) → so_far'.faults ≡ min (so_far.faults + t.count) (2 ^ 64 - 1)
    → so_far'.files ≡ (if nat_lt 0 t.count then so_far.files + 1 else so_far.files) → Checked style names' old new status' so_far'
more_checked style names names' name old mid new status status' so_far so_far' t c f e w n m = record {
  tallies = c.tallies ++ (t ∷ []);
  each = each_more (ChecksFile style) names names' name c.tallies t old mid new c.each f e;
  worst_of = let h = worst-push c.tallies t in let k = c.worst_of in omega (arith, h, k, w);
  faults = n ∙ ap (λ (x : ℕ). min (x + t.count) (2 ^ 64 - 1)) c.faults ∙ sym (all_faults-push c.tallies t);
  files = m ∙ ap (λ (x : ℕ). if nat_lt 0 t.count then x + 1 else x) c.files ∙ sym (faulty_files-push c.tallies t);
}

-- all files, and then the line on their faults
pub all_checked : (style : Style) (names names' : List (List ℕ)) (old mid new : Seen) (status status' : Status) (so_far : Totals) (last : Tally) → Checked style names old mid status so_far → names' ≡ names
    → Does (PrintsTotals style.form so_far.faults so_far.files) output mid new last → code_of status' ≡ max (code_of status) (code_of last.status) → ChecksFiles style names' old new status'
all_checked style names names' old mid new status status' so_far last c e d w = record {
  tallies = c.tallies;
  between = mid;
  each = subst (λ (x : List (List ℕ)). Each (ChecksFile style) x old mid c.tallies) (sym e) c.each;
  last = last;
  ends = subst (λ (x : ℕ). Does (PrintsTotals style.form (all_faults c.tallies) x) output mid new last) c.files
      (subst (λ (x : ℕ). Does (PrintsTotals style.form x so_far.files) output mid new last) c.faults d);
  worst_of = let h = worst-push c.tallies last in let k = c.worst_of in omega (arith, h, k, w);
}
