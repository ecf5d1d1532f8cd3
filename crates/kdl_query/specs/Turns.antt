-- Paths, each by what it has beyond the one before it.
use Rattle.std.specs.Prelude.{List, [], ◌∷◌, ◌++◌, take}
use Rattle.kdl_query.specs.Selects.{Path}
use Rattle.kdl_query.specs.declared.find.Turn.{Turn}

-- the path that follows p
abbrev pub turned : Path → Turn → Path
turned p t = take t.kept p ++ t.rest.items

-- the paths that follow p, one after another
abbrev pub paths_from : Path → List Turn → List Path
paths_from p [] = []
paths_from p (t ∷ ts) = turned p t ∷ paths_from (turned p t) ts
