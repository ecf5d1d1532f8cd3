-- What the actions that edit a text make of it.
use Rattle.std.specs.Prelude.{◌≡◌, Bool, IsSome, List, None, Some, chars, false, ℕ}
use Rattle.kdl.specs.Words.{IsDocument, Nodes}
use Rattle.kdl_path.specs.Each.{IsRemovedAtEach, IsSetAtEach}
use Rattle.kdl_path.specs.Edits.{HasPlace, IsInsertedAt, IsMadeAt, IsSetAt, named_at, without}
use Rattle.kdl_path.specs.Paths.{at_path}
use Rattle.kdl_path.specs.declared.path.Path.{Path}
use Rattle.kdl_path.specs.declared.path.Target.{Target}
use Rattle.kdl_query.specs.Data.{Query}
use Rattle.cli_world.specs.Seen.{Seen}

-- the new text is the text of a document with VALUE in place of the bytes of the value at the path, or, where there is none, with VALUE made there; without `create`, there is one
abbrev pub IsSet : Path → (value : List ℕ) → (create : Bool) → (text new : List ℕ) → Type 0
IsSet p value create text new = (x : Nodes) × IsDocument (chars text) x
    × (IsSome (at_path p x) → IsSetAt p (chars value) (chars text) (chars new)) × (at_path p x ≡ None → IsMadeAt p (chars value) (chars text) (chars new)) × (create ≡ false → IsSome (at_path p x))

-- the data of the new text are those of the text without what the path names, which is there
abbrev pub IsRemoved : Path → (text new : List ℕ) → Type 0
IsRemoved p text new = (x : Nodes) × IsDocument (chars text) x × IsSome (named_at p x) × IsDocument (chars new) (without p x)

-- the new text is the text with VALUE in place of the bytes of the value that the target names in each node that the query selects, one at least
abbrev pub IsEachSet : Query → Target → (value text new : List ℕ) → Type 0
IsEachSet q t value text new = (x : Nodes) × IsDocument (chars text) x × IsSetAtEach x q t (chars value) (chars text) (chars new)

-- the data of the new text are those of the text without what the target names in each node that the query selects, one at least
abbrev pub IsEachRemoved : Query → Target → (text new : List ℕ) → Type 0
IsEachRemoved q t text new = (x : Nodes) × IsDocument (chars text) x × IsRemovedAtEach x q t (chars new)

-- NODE is one node, which the new text has at the end of the block that the path names, and which is there
abbrev pub IsInserted : Path → (node text new : List ℕ) → Type 0
IsInserted p node text new = (x : Nodes) × IsDocument (chars text) x × HasPlace p.steps.items x
    × IsInsertedAt p (chars node) (chars text) (chars new)

-- a file whose bytes are known has its text with VALUE in place of the bytes of the value at the path, or made there
abbrev pub SetsFile : Path → (value : List ℕ) → (create : Bool) → (name : List ℕ) → (old new : Seen) → Type 0
SetsFile p value create name old new = (text : List ℕ) → old.files name ≡ Some text
    → (out : List ℕ) × IsSet p value create text out × (new.files name ≡ Some out)
