-- What an action does with the text of a file.
use Rattle.std.specs.Prelude.{◌≡◌, ◌⊎◌, [], Bool, List, None, chars, false, if◌then◌else◌, true, ℕ}
use Rattle.std.specs.Str.{bytes_eq}
use Rattle.kdl.specs.Words.{IsDocument, IsNodeText, NodeData, Nodes, Value}
use Rattle.c_calls.specs.Entries.{IsValueText}
use Rattle.kdl_layout.specs.WellFormed.{AreWellFormed}
use Rattle.kdl_json.specs.Form.{IsJsonOf}
use Rattle.kdl_path.specs.Each.{FindsNone, named_node, value_at}
use Rattle.kdl_path.specs.Edits.{HasPlace, named_at}
use Rattle.kdl_path.specs.Failures.{IsUnset}
use Rattle.kdl_path.specs.declared.path.Target.TheVariants.{Node}
use Rattle.kdl_query.specs.Tree.{query_says}
use Rattle.cli_world.specs.Acts.{Acts, Effect}
use Rattle.cli_world.specs.Acts.Effect.{prints, replaces, reports}
use Rattle.cli_world.specs.Seen.{Seen, complaint, problem}
use Rattle.cli_world.specs.Tallies.{plain}
use Rattle.cli_world.specs.declared.status.Status.TheVariants as status
use Rattle.cli_world.specs.declared.tally.Tally.{Tally}
use Rattle.cli.specs.Edits.{IsEachRemoved, IsEachSet, IsInserted, IsRemoved, IsSet}
use Rattle.cli.specs.Reports.{ReportsFaults, ReportsNotUtf8}
use Rattle.cli.specs.Shown.{IsJsonShown, IsOfJson, IsShown, asked}
use Rattle.cli.specs.declared.ask.Action.{Action}
use Rattle.cli.specs.declared.ask.Action.TheVariants.{FromJson, Get, Insert, Json, Remove, RemoveEach, Set, SetEach}
use Rattle.cli.specs.declared.ask.Ask.{Ask}

-- the output, or the new text, is what the action asks for
abbrev pub Gives : Action → (text out : List ℕ) → Type 0
Gives (Get path raw all) text out = IsShown path.now raw all text out
Gives (Set path value create) text out = IsSet path.now value.now create text out
Gives (Remove path) text out = IsRemoved path.now text out
Gives (SetEach query t value) text out = IsEachSet (query_says query.now) t.now value.now text out
Gives (RemoveEach query t) text out = IsEachRemoved (query_says query.now) t.now text out
Gives (Insert path node) text out = IsInserted path.now node.now text out
Gives Json text out = IsJsonShown text out
Gives FromJson text out = IsOfJson text out

-- what the action asks for is not in the text
abbrev pub IsNotThere : Action → (text : List ℕ) → Type 0
IsNotThere (Get path raw all) text = (x : Nodes) × IsDocument (chars text) x × (asked path.now all x ≡ [])
IsNotThere (Set path value create) text = (x : Nodes) × IsDocument (chars text) x × IsUnset path.now create x
IsNotThere (Remove path) text = (x : Nodes) × IsDocument (chars text) x × (named_at path.now x ≡ None)
IsNotThere (SetEach query t value) text = (x : Nodes) × IsDocument (chars text) x × FindsNone x (query_says query.now) (value_at t.now x)
IsNotThere (RemoveEach query t) text = (x : Nodes) × IsDocument (chars text) x × FindsNone x (query_says query.now) (named_node t.now x)
IsNotThere (Insert path node) text = (x : Nodes) × IsDocument (chars text) x × (HasPlace path.now.steps.items x → ⊥)
IsNotThere Json text = ⊥
IsNotThere FromJson text = (x : Nodes) → AreWellFormed x → IsJsonOf text x → ⊥

-- VALUE is no value, NODE is no node, or the path names no node where it has to
abbrev pub IsMisused : Action → Type 0
IsMisused (Set path value create) = (v : Value) → IsValueText (chars value.now) v → ⊥
IsMisused (SetEach query t value) = (v : Value) → IsValueText (chars value.now) v → ⊥
IsMisused (Insert path node) = (path.now.target ≡ Node → ⊥) ⊎ ((y : NodeData) → IsNodeText (chars node.now) y → ⊥)
IsMisused _ = ⊥

-- the action is on a document
abbrev pub IsOnDocument : Action → Type 0
IsOnDocument FromJson = ⊥
IsOnDocument _ = Unit {0}

-- what an action gives is printed, or is the text of the file from then on
abbrev pub delivery : (replace : Bool) → (text out : List ℕ) → Effect
delivery false text out = prints out (plain status.Done)
delivery true text out = if bytes_eq text out then prints [] (plain status.Done) else replaces out

-- what is done with the text of a file for an action
pub data Asks (ask : Ask) (text : List ℕ) : Effect → Type 0 where
  gives : (out : List ℕ) {e : Effect} → Gives ask.action text out → e ≡ delivery ask.replace text out → Asks ask text e
  not_there : (why : List ℕ) → IsNotThere ask.action text → Asks ask text (reports (problem ask.name.now why) status.Found)
  misused : (why : List ℕ) → IsMisused ask.action → Asks ask text (reports (complaint why) status.Usage)
  refused : {e : Effect} → IsOnDocument ask.action → ReportsFaults ask.style ask.name.now text e → Asks ask text e

-- the file is acted on so
abbrev pub AsksFile : Ask → (old new : Seen) → Tally → Type 0
AsksFile ask old new t = Acts (Asks ask) (ReportsNotUtf8 ask.style ask.name.now) ask.name.now old new t
