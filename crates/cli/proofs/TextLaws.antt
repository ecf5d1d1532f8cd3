-- Texts of the program itself are shown.
use Rattle.std.proofs.Common.{◌≡◌, ◌∙◌, [], List, Some, false, subst, sym, ℕ}
use Rattle.cli_words.proofs.Written.{some_page, some_script}
use Rattle.cli_words.specs.Template.{IsManual, IsScript}
use Rattle.cli_words.specs.declared.completions.Shell.{Shell}
use Rattle.cli_world.specs.Acts.{Does, Effect, Happens, output}
use Rattle.cli_world.specs.Acts.Does.{does, memory}
use Rattle.cli_world.specs.Acts.Effect.{prints}
use Rattle.cli_world.specs.Seen.{Seen}
use Rattle.cli_world.specs.Tallies.{plain}
use Rattle.cli_world.specs.declared.status.Status.TheVariants.{Done}
use Rattle.cli_world.specs.declared.tally.Tally.{Tally}
use Rattle.cli.proofs.AskLaws.{done_printed, got, nothing_appended, some_same}
use Rattle.cli.specs.Requests.{Runs, Shows}
use Rattle.cli.specs.declared.request.Request.TheVariants as request

-- a text that is not empty is not shown where nothing changes
some_text : (IsText : List ℕ → Type 0) → (IsText [] → ⊥) → (s : Seen) (before : List ℕ) → Shows IsText s s Done → s.out.bytes ≡ Some before → s.out.failed ≡ false → ⊥
some_text IsText some s before (t, d, e) b f = go t d (sym e)
  where
    go : (t : Tally) → Does (λ e. (out : List ℕ) × IsText out × (e ≡ prints out (plain Done))) output s s t → t.status ≡ Done → ⊥
    go _ (does {e} {t} (out, is, p) h) d =
        let printed = done_printed output out s s t (subst (λ (x : Effect). Happens output s s x t) p h) d in
        some (subst IsText (nothing_appended before out (some_same (sym b ∙ got out before s s printed.out b f))) is)
    go _ (memory r) d = absurd cc

pub completions_shown : (shell : Shell) (s : Seen) (before : List ℕ) → Runs (request.Completions shell) s s Done → s.out.bytes ≡ Some before → s.out.failed ≡ false → ⊥
completions_shown shell s before r b f = some_text (IsScript shell) (some_script shell) s before r b f

pub manual_shown : (s : Seen) (before : List ℕ) → Runs request.Manual s s Done → s.out.bytes ≡ Some before → s.out.failed ≡ false → ⊥
manual_shown s before r b f = some_text IsManual some_page s before r b f
