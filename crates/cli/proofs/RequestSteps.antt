-- What becomes of the settings of a run, and of the files that are formatted with them.
use Rattle.std.proofs.Common.{◌≡◌, ◌∙◌, Bool, Bor, Err, Global, List, Some, Vec, ap, codes, false, inl, inr, refl, subst, sym, true, ℕ}
use Rattle.cli_world.proofs.Acting.{memory_is}
use Rattle.cli_world.specs.Acts.{Does, Happens, output}
use Rattle.cli_world.specs.Acts.Does.{does}
use Rattle.cli_world.specs.Acts.Effect.{prints}
use Rattle.cli_world.specs.Files.{Has}
use Rattle.cli_world.specs.Seen.{IsUnread, Reports, Seen, problem}
use Rattle.cli_world.specs.Tallies.{plain}
use Rattle.cli_world.specs.declared.status.Status.{Status}
use Rattle.cli_world.specs.declared.status.Status.TheVariants.{Done, Failed, Usage}
use Rattle.cli_world.specs.declared.tally.Tally.{Tally}
use Rattle.cli_world.specs.declared.world.Unread.{Unread}
use Rattle.cli_world.specs.declared.world.Unread.TheVariants.{Lost, NotUtf8}
use Rattle.cli.specs.Config.{Configures}
use Rattle.cli.specs.Formats.{FormatsFiles}
use Rattle.cli.specs.Reports.{ReportsNotUtf8}
use Rattle.cli.specs.Requests.{AreSettings, IsUnsettled, IsUnusable, RunsFormat, Shows, has_input_twice, job_of, names_of, or_input, replaces_input, settings_status, unfit_report}
use Rattle.cli.specs.Requests.IsUnsettled.{lost, memory, not_utf8, unfit}
use Rattle.cli.specs.Requests.RunsFormat.{runs, unsettled, unusable}
use Rattle.cli.specs.declared.config.Unfit.{Unfit}
use Rattle.cli.specs.declared.config.Unfit.TheVariants.{Memory}
use Rattle.cli.specs.declared.report.Style.{Style}
use Rattle.cli.specs.declared.request.Format.{Format}
use Rattle.cli.specs.declared.settings.Settings.{Settings}

-- why a text gives no settings is reported
pub is_unfit : (style : Style) (name text report : List ℕ) (why : Unfit) (old new : Seen) → Has old.files name text → Configures text (Err why) → (why ≡ Memory → ⊥)
    → report ≡ unfit_report style name text why → Reports report old new → IsUnsettled style name old new Usage
is_unfit style name text report why old new has is some e r = unfit {text = text} why has is some (subst (λ (x : List ℕ). Reports x old new) e r)

-- a file of settings is not UTF-8, or is not read
pub is_bad : (style : Style) (name : List ℕ) (old mid new : Seen) (u : Unread) (v : Vec ℕ Global) (bytes : List ℕ) (t : Tally) (s : Status) → u ≡ NotUtf8 v → IsUnread name old mid u → bytes ≡ v.items
    → Does (ReportsNotUtf8 style name bytes) name mid new t → s ≡ settings_status t.status → IsUnsettled style name old new s
is_bad style name old mid new u v bytes t s is unread same d status =
    let bad = subst (IsUnread name old mid) is unread in
    not_utf8 bad.1 bad.2 (subst (λ (b : List ℕ). Does (ReportsNotUtf8 style name b) name old new t) same (subst (λ (x : Seen). Does (ReportsNotUtf8 style name bytes) name x new t) bad.0 d)) status

pub is_lost : (style : Style) (name : List ℕ) (old new : Seen) (u : Unread) → u ≡ Lost → IsUnread name old new u → IsUnsettled style name old new Failed
is_lost style name old new u is unread = lost (subst (IsUnread name old new) is unread)

-- it is reported that memory ran out
pub is_short : (style : Style) (name : List ℕ) (t : Tally) (old new : Seen) → Reports (problem name (codes "out of memory")) old new → t ≡ plain Failed → IsUnsettled style name old new t.status
is_short style name t old new r e = subst (λ (x : Tally). IsUnsettled style name old new x.status) (sym e) (memory r)

-- files are not formatted
pub not_replaced : (f : Format) (b : Bool) (old new : Seen) (s : Status) → b ≡ replaces_input f.mode (names_of f.names.now) → b ≡ true → IsUnusable old new s → RunsFormat f old new s
not_replaced f b old new s is on u = unusable (inl (sym is ∙ on)) u

pub not_read : (f : Format) (b : Bool) (old new : Seen) (s : Status) → b ≡ has_input_twice (names_of f.names.now) → b ≡ true → IsUnusable old new s → RunsFormat f old new s
not_read f b old new s is on u = unusable (inr (sym is ∙ on)) u

pub not_settled : (f : Format) (old new : Seen) (s : Status) → (name : Bor (List ℕ)) × (f.config ≡ Some name) × IsUnsettled f.style name.now old new s → RunsFormat f old new s
not_settled f old new s (name, is, u) = unsettled {name = name} is u

-- files are formatted
pub formatted_with : (f : Format) (settings : Settings) (b c : Bool) (old mid new : Seen) (s : Status) → b ≡ replaces_input f.mode (names_of f.names.now) → b ≡ false
    → c ≡ has_input_twice (names_of f.names.now) → c ≡ false → (mid ≡ old) × AreSettings f old settings
    → FormatsFiles (job_of f settings) (or_input (names_of f.names.now)) mid new s → RunsFormat f old new s
formatted_with f settings b c old mid new s b-is off c-is once (same, are) r =
    runs {settings = settings} (sym b-is ∙ off) (sym c-is ∙ once) are
    (subst (λ (x : Seen). FormatsFiles (job_of f settings) (or_input (names_of f.names.now)) x new s) same r)

-- a text of the program itself is printed
pub is_shown : (IsText : List ℕ → Type 0) (bytes text : List ℕ) (old new : Seen) (s : Status) → IsText text → bytes ≡ text → (t : Tally) × Happens output old new (prints bytes (plain Done)) t × (s ≡ t.status) → Shows IsText old new s
is_shown IsText bytes text old new s is same (t, h, e) = (t, does {e = prints bytes (plain Done)} (text, is, ap (λ (b : List ℕ). prints b (plain Done)) same) h, e)

pub is_not_shown : (IsText : List ℕ → Type 0) (t : Tally) (old new : Seen) → Reports (problem output (codes "out of memory")) old new → t ≡ plain Failed → Shows IsText old new t.status
is_not_shown IsText t old new r e = (t, memory_is _ output old new t r e, refl)
