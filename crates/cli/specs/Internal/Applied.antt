-- What an action makes of a text.
use Rattle.std.specs.Prelude.{◌≡◌, Err, List, None, Ok, Result, Some, string_bytes, ℕ, Bool}
use Rattle.kdl.specs.Words.{Nodes, Value}
use Rattle.kdl_path.specs.Paths.{at_path}
use Rattle.kdl_path.specs.declared.failure.EditFailure.{EditFailure}
use Rattle.kdl_path.specs.declared.failure.EditFailure.TheVariants as edit
use Rattle.kdl_path.specs.declared.path.Path.{Path}
use Rattle.kdl_text.specs.declared.error.ParseFailure.{ParseFailure}
use Rattle.kdl_text.specs.declared.error.ParseFailure.TheVariants.{Memory, Syntax}
use Rattle.cli_shown.specs.Values.{line_of}
use Rattle.cli.specs.Asks.{Gives, IsMisused, IsNotThere, IsOnDocument}
use Rattle.kdl_path.specs.Failures.{TextFails}
use Rattle.cli.specs.declared.ask.Action.{Action}
use Rattle.cli.specs.declared.ask.Applied.{Applied}
use Rattle.cli.specs.declared.ask.Applied.TheVariants.{NotFound, Text, Usage}

-- the result of an action on a text
abbrev pub Applies : Action → List ℕ → Result Applied ParseFailure → Type 0
Applies a text (Ok (Text s)) = Gives a text (string_bytes s)
Applies a text (Ok (NotFound s)) = IsNotThere a text
Applies a text (Ok (Usage s)) = IsMisused a
Applies a text (Err (Syntax e)) = IsOnDocument a × TextFails text e
Applies a text (Err Memory) = Unit {0}

-- the result of `get` for one value: a line with the value at the path, or none is there
abbrev pub ShowsAt : Path → Bool → Nodes → Result Applied ParseFailure → Type 0
ShowsAt p raw x (Ok (Text s)) = (v : Value) × (at_path p x ≡ Some v) × (string_bytes s ≡ line_of raw v)
ShowsAt p raw x (Ok (NotFound s)) = at_path p x ≡ None
ShowsAt p raw x (Ok (Usage s)) = ⊥
ShowsAt p raw x (Err (Syntax e)) = ⊥
ShowsAt p raw x (Err Memory) = Unit {0}

-- the result of an edit that was not made, for that reason
abbrev pub IsUnedited : EditFailure → Result Applied ParseFailure → Type 0
IsUnedited (edit.Text e) r = r ≡ Err (Syntax e)
IsUnedited (edit.Missing m) (Ok (NotFound s)) = Unit {0}
IsUnedited edit.Value (Ok (Usage s)) = Unit {0}
IsUnedited (edit.Node e) (Ok (Usage s)) = Unit {0}
IsUnedited edit.NotNode (Ok (Usage s)) = Unit {0}
IsUnedited f (Err Memory) = Unit {0}
IsUnedited f r = ⊥
