-- What is done with files in which a query selects nodes.
use Rattle.std.specs.Prelude.{◌≡◌, ◌⊎◌, ◌==◌, ℕ, max, Bool, List, None, Ok, Err, Result, Some, String, chars, codes, encode_utf8_all, if◌then◌else◌, option_map, string_bytes}
use Rattle.std.specs.declared.alloc.Global.{Global}
use Rattle.kdl.specs.Words.{InText, LaidDocument, document_tree}
use Rattle.kdl.specs.declared.document.KdlDocument.{KdlDocument}
use Rattle.kdl_query.specs.Data as data'
use Rattle.kdl_query.specs.QueryText.{IsQuery}
use Rattle.kdl_query.specs.Tree.{query_says}
use Rattle.kdl_query.specs.declared.error.QueryError.{QueryError}
use Rattle.kdl_query.specs.declared.tree.Query.{Query}
use Rattle.kdl_report.specs.Picture.{picture}
use Rattle.kdl_text.specs.declared.error.KdlDiagnostic.{KdlDiagnostic}
use Rattle.kdl_text.specs.declared.span.Severity.TheVariants.{Error}
use Rattle.cli_shown.specs.Nodes.{ShowsSelected}
use Rattle.cli_world.specs.Acts.{Acts, Each, Effect}
use Rattle.cli_world.specs.Acts.Effect.{prints}
use Rattle.cli_world.specs.Seen.{Seen}
use Rattle.cli_world.specs.Statuses.{code_of}
use Rattle.cli_world.specs.Tallies.{counted, worst}
use Rattle.cli_world.specs.declared.status.Status.{Status}
use Rattle.cli_world.specs.declared.status.Status.TheVariants.{Done}
use Rattle.cli_world.specs.declared.tally.Tally.{Tally}
use Rattle.cli.specs.Reports.{ReportsFaults, ReportsNotUtf8}
use Rattle.cli.specs.declared.query.Search.{Search}

-- the error of a query, as a fault of its text
pub record IsFault (error : QueryError) (fault : KdlDiagnostic) : Type 0 where
  pub span : fault.span ≡ error.span
  pub message : option_map string_bytes fault.message ≡ Some error.message.now
  pub label : fault.label ≡ None
  pub help : option_map string_bytes fault.help ≡ option_map (λ h. h.now) error.help
  pub severity : fault.severity ≡ Error

-- the picture of an error in the text of a query
abbrev pub IsPicture : Bool → (text : List ℕ) → QueryError → (out : List ℕ) → Type 0
IsPicture color text error out = (fault : KdlDiagnostic) × IsFault error fault
    × (out ≡ encode_utf8_all (picture color (chars (codes "<query>")) (chars text) fault None))

-- the text is this query; it is none, and this is the picture of an error in it
abbrev pub IsReadQuery : Bool → List ℕ → Result Query (String Global) → Type 0
IsReadQuery color text (Ok q) = IsQuery (chars text) (query_says q)
IsReadQuery color text (Err out) = ((x : data'.Query) → IsQuery (chars text) x → ⊥)
    × ((error : QueryError) × InText (chars text) error.span × IsPicture color text error (string_bytes out))

-- what is shown of the nodes that the query selects in the document of the text, and how many they are
pub record Shows (s : Search) (text out : List ℕ) (count : ℕ) : Type 0 where
  pub document : KdlDocument
  pub laid : LaidDocument (document_tree document) (chars text)
  pub shows : ShowsSelected s.view (query_says s.query.now) document out count

-- what is shown of the selected nodes is printed, with their number
abbrev pub PrintsNodes : Search → List ℕ → Effect → Type 0
PrintsNodes s text e = (out : List ℕ) × (count : ℕ) × Shows s text out count × (e ≡ prints out (record { status = Done; count = count }))

-- the nodes of a text are printed, or its faults are reported
abbrev pub Searches : Search → (name text : List ℕ) → Effect → Type 0
Searches s name text e = PrintsNodes s text e ⊎ ReportsFaults s.style name text e

-- a file is searched
abbrev pub SearchesFile : Search → List ℕ → Seen → Seen → Tally → Type 0
SearchesFile s name old new t = Acts (Searches s name) (ReportsNotUtf8 s.style name) name old new t

-- the files are searched in turn; the status is the worst of theirs, and not 0 if no node is selected in any of them
abbrev pub SearchesFiles : Search → List (List ℕ) → Seen → Seen → Status → Type 0
SearchesFiles s names old new status = (ts : List Tally) × Each (SearchesFile s) names old new ts
    × (code_of status ≡ max (worst ts) (if counted ts == 0 then 1 else 0))
