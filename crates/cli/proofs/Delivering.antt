-- What an action gives is delivered, and what is missing or wrong is reported.
use Rattle.std.proofs.Common.{◌≡◌, ◌∙◌, [], Bool, Err, Global, List, Ok, String, false, if◌then◌else◌, refl, string_bytes, subst, sym, true, ℕ}
use Rattle.std.specs.Str.{bytes_eq}
use Rattle.kdl_text.specs.declared.error.KdlError.{KdlError}
use Rattle.kdl_text.specs.declared.error.ParseFailure.{ParseFailure}
use Rattle.kdl_text.specs.declared.error.ParseFailure.TheVariants.{Syntax}
use Rattle.cli_world.specs.Acts.{Does, Happens}
use Rattle.cli_world.specs.Acts.Does.{does}
use Rattle.cli_world.specs.Acts.Effect.{prints, replaces, reports}
use Rattle.cli_world.specs.Seen.{Seen, complaint, problem}
use Rattle.cli_world.specs.Tallies.{plain}
use Rattle.cli_world.specs.declared.status.Status.TheVariants as status
use Rattle.cli_world.specs.declared.tally.Tally.{Tally}
use Rattle.cli_world.proofs.Acting.{Does-map, nothing_happens}
use Rattle.cli.specs.Asks.{Asks, Gives, IsOnDocument, delivery}
use Rattle.cli.specs.Asks.Asks.{gives, misused, not_there, refused}
use Rattle.cli.specs.Internal.Applied.{Applies}
use Rattle.kdl_path.specs.Failures.{TextFails}
use Rattle.cli.specs.Reports.{ReportsError}
use Rattle.cli.specs.declared.ask.Applied.{Applied}
use Rattle.cli.specs.declared.ask.Applied.TheVariants.{NotFound, Text, Usage}
use Rattle.cli.specs.declared.ask.Ask.{Ask}

-- the text of a file that is not to change
pub text_stays : (name text out : List ℕ) (replace b : Bool) (s : Seen) (t : Tally) → replace ≡ true → b ≡ true → b ≡ bytes_eq text out → t ≡ plain status.Done
    → Happens name s s (delivery replace text out) t
text_stays name text out true b s t r is e d =
    subst (λ (x : Bool). Happens name s s (if x then prints [] (plain status.Done) else replaces out) t) (sym (sym e ∙ is))
    (subst (λ (x : Tally). Happens name s s (prints [] (plain status.Done)) x) (sym d) (nothing_happens name s (plain status.Done)))
text_stays name text out false b s t r is e d = absurd cc

-- what an action gives
pub put_text : (ask : Ask) (text out : List ℕ) (s : String Global) (a : Applied) (old new : Seen) (t : Tally) → a ≡ Text s → out ≡ string_bytes s
    → Happens ask.name.now old new (delivery ask.replace text out) t → Applies ask.action text (Ok a) → Does (Asks ask text) ask.name.now old new t
put_text ask text out s a old new t is o h g =
    does (gives out (subst (Gives ask.action text) (sym o) (subst (λ (x : Applied). Applies ask.action text (Ok x)) is g)) refl) h

-- what is missing, and what is wrong
pub put_missing : (ask : Ask) (text why : List ℕ) (s : String Global) (a : Applied) (old new : Seen) (t : Tally) → a ≡ NotFound s
    → Happens ask.name.now old new (reports (problem ask.name.now why) status.Found) t → Applies ask.action text (Ok a) → Does (Asks ask text) ask.name.now old new t
put_missing ask text why s a old new t is h g = does (not_there why (subst (λ (x : Applied). Applies ask.action text (Ok x)) is g)) h

pub put_complaint : (ask : Ask) (text why : List ℕ) (s : String Global) (a : Applied) (old new : Seen) (t : Tally) → a ≡ Usage s
    → Happens ask.name.now old new (reports (complaint why) status.Usage) t → Applies ask.action text (Ok a) → Does (Asks ask text) ask.name.now old new t
put_complaint ask text why s a old new t is h g = does (misused why (subst (λ (x : Applied). Applies ask.action text (Ok x)) is g)) h

-- the faults of a text
pub faults_reported : (ask : Ask) (text : List ℕ) (f : ParseFailure) (error : KdlError) (old new : Seen) (t : Tally) → f ≡ Syntax error → Applies ask.action text (Err f)
    → Does (ReportsError ask.style ask.name.now text error) ask.name.now old new t → Does (Asks ask text) ask.name.now old new t
faults_reported ask text f error old new t is h r =
    let g : IsOnDocument ask.action × TextFails text error = subst (λ (x : ParseFailure). Applies ask.action text (Err x)) is h in
    Does-map (ReportsError ask.style ask.name.now text error) (Asks ask text) (λ e p. refused g.0 (error, g.1, p)) ask.name.now old new t r
