-- The settings that a text gives.
use Rattle.std.specs.Option.{option_map_or, option_or}
use Rattle.std.specs.Prelude.{◌≡◌, ◌++◌, ◌∷◌, ◌^◌, ◌&&◌, ◌<◌, [], Bool, Err, List, None, Ok, Option, Result, Some, chars, codes, if◌then◌else◌, is_none, is_some, length, map, nat_lt, option_and_then, option_map, ℕ, ℤ, pos, negsuc}
use Rattle.kdl.specs.Words.{EntryData, LaidDocument, NodeData, Text, Value, integer_value, said_children, said_entries, said_name, said_type, text_value, truth_value}
use Rattle.kdl_grammar.specs.Tree.{DocumentFormat, Node, document, listed_nodes, node, node_data}
use Rattle.kdl_parts.specs.EntryLists.{same_text}
use Rattle.kdl_text.specs.declared.span.SourceSpan.{SourceSpan}
use Rattle.kdl_path.specs.Failures.{TextFails}
use Rattle.cli.specs.declared.config.Key.{Key}
use Rattle.cli.specs.declared.config.Key.TheVariants.{BlankLines, Expand, Indent as IndentKey, Respell}
use Rattle.cli.specs.declared.config.Misfit.{Misfit}
use Rattle.cli.specs.declared.config.Unfit.{Unfit}
use Rattle.cli.specs.declared.config.Unfit.TheVariants.{Memory, Misfits, Syntax}
use Rattle.cli.specs.declared.config.Why.{Why}
use Rattle.cli.specs.declared.config.Why.TheVariants.{Twice, Unfit as UnfitValue, Unknown}
use Rattle.cli.specs.declared.settings.Given.{Given}
use Rattle.cli.specs.declared.settings.Indent.{Indent}
use Rattle.cli.specs.declared.settings.Indent.TheVariants.{Spaces, Tab}
use Rattle.cli.specs.Settings.{none_given}

-- the value of an argument without a type
abbrev pub bare_value : EntryData → Option Value
bare_value e = if is_none e.key && is_none e.ty then Some e.value else None

-- the value of the one argument
abbrev pub one_value : List EntryData → Option Value
one_value (e ∷ []) = bare_value e
one_value _ = None

-- the value of a node that is a name and one value, and nothing else
abbrev pub only_value : NodeData → Option Value
only_value n = if is_none (said_type n) && is_none (said_children n) then one_value (said_entries n) else None

-- a whole number that a machine can count
abbrev pub count : ℤ → Option ℕ
count (pos n) = if nat_lt n (2 ^ 64) then Some n else None
count (negsuc n) = None

-- the number that a value is
abbrev pub count_of : Value → Option ℕ
count_of v = option_and_then count (integer_value v)

-- the indent that a string is
abbrev pub tab_of : Text → Option Indent
tab_of t = if same_text t (codes "tab") then Some Tab else None

-- the indent that a value is: a number of spaces, or `tab`
abbrev pub indent_of : Value → Option Indent
indent_of v = option_map_or tab_of (text_value v) (option_map Spaces (count_of v))

-- the setting that has that name
abbrev pub key_of : Text → Option Key
key_of name = if same_text name (codes "indent") then Some IndentKey
    else if same_text name (codes "blank-lines") then Some BlankLines
    else if same_text name (codes "respell") then Some Respell
    else if same_text name (codes "expand") then Some Expand
    else None

-- the setting with that value: none if it can't have it
abbrev pub alone : Key → Option Value → Given
alone IndentKey v = record none_given { indent = option_and_then indent_of v }
alone BlankLines v = record none_given { blank_lines = option_and_then count_of v }
alone Respell v = record none_given { respell = option_and_then truth_value v }
alone Expand v = record none_given { expand = option_and_then truth_value v }

-- the setting that a node gives, if it gives one
abbrev pub given_of : NodeData → Given
given_of n = option_map_or (λ k. alone k (only_value n)) (key_of (said_name n)) none_given

-- the settings of g, and those of h that g lacks
abbrev pub merged : Given → Given → Given
merged g h = record {
  indent = option_or g.indent h.indent;
  blank_lines = option_or g.blank_lines h.blank_lines;
  respell = option_or g.respell h.respell;
  expand = option_or g.expand h.expand;
}

-- the settings that nodes give: each by the first node that gives it
abbrev pub given_by : List NodeData → Given
given_by [] = none_given
given_by (n ∷ ns) = merged (given_of n) (given_by ns)

-- that setting is given
abbrev pub is_given : Key → Given → Bool
is_given IndentKey g = is_some g.indent
is_given BlankLines g = is_some g.blank_lines
is_given Respell g = is_some g.respell
is_given Expand g = is_some g.expand

-- why a node is no setting, from whether the setting of its name is given before, and here
abbrev pub unfit : Key → (before here : Bool) → Option Why
unfit k before here = if here then (if before then Some Twice else None) else Some (UnfitValue k)

-- the same for that setting
abbrev pub wrong : Key → (before here : Given) → Option Why
wrong k before here = unfit k (is_given k before) (is_given k here)

-- why a node is no setting after nodes that give these, if it is none
abbrev pub misfit : Given → NodeData → Option Why
misfit before n = option_map_or (λ k. wrong k before (given_of n)) (key_of (said_name n)) (Some Unknown)

-- the span of the name of a node
abbrev pub name_span : Node → SourceSpan
name_span (node h k) = h.name.span

-- the nodes among these that are no settings, in order, each with the reason and the span of its name
pub data AreMisfits : List Node → List Misfit → Type 0 where
  none : AreMisfits [] []
  setting : {ns : List Node} {ms : List Misfit} (n : Node) → AreMisfits ns ms → misfit (given_by (map node_data ns)) (node_data n) ≡ None → AreMisfits (ns ++ (n ∷ [])) ms
  no_setting : {ns : List Node} {ms : List Misfit} (n : Node) (m : Misfit) → AreMisfits ns ms → misfit (given_by (map node_data ns)) (node_data n) ≡ Some m.why → m.span ≡ name_span n
      → AreMisfits (ns ++ (n ∷ [])) (ms ++ (m ∷ []))

-- the text is a document of nodes that give these settings, with these misfits among them
pub record IsConfig (text : List ℕ) (given : Given) (misfits : List Misfit) : Type 0 where
  pub nodes : List Node
  pub format : Option DocumentFormat
  pub span : SourceSpan
  pub laid : LaidDocument (document format span (listed_nodes nodes)) (chars text)
  pub gives : given ≡ given_by (map node_data nodes)
  pub each : AreMisfits nodes misfits

-- a text gives settings, and each of its nodes is one; or it gives none, since it is no document, or since some of its nodes are no settings
abbrev pub Configures : List ℕ → Result Given Unfit → Type 0
Configures text (Ok given) = IsConfig text given []
Configures text (Err (Syntax e)) = TextFails text e
Configures text (Err (Misfits ms)) = (0 < length ms.items) × ((given : Given) × IsConfig text given ms.items)
Configures text (Err Memory) = Unit {0}

-- what is said of a node that is no setting
abbrev pub why_text : Why → List ℕ
why_text Unknown = codes "no such setting: there are `indent`, `blank-lines`, `respell` and `expand`"
why_text (UnfitValue IndentKey) = codes "`indent` is a number of spaces or `tab`"
why_text (UnfitValue BlankLines) = codes "`blank-lines` is a number of lines"
why_text (UnfitValue Respell) = codes "this setting is `#true` or `#false`"
why_text (UnfitValue Expand) = codes "this setting is `#true` or `#false`"
why_text Twice = codes "the setting is there before"
