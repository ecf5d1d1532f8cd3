-- How the texts of PATHs on a command line are read.
use Rattle.std.specs.Prelude.{◌≡◌, ◌++◌, [], Err, List, Ok, Result, String, chars, codes, decimal, string_bytes, ℕ}
use Rattle.std.specs.declared.alloc.Global.{Global}
use Rattle.kdl_path.specs.PathText.{IsPath, IsTarget, PathData, TargetData, path_says, target_says}
use Rattle.kdl_path.specs.declared.path.Path.{Path}

-- what is wrong with a text at a byte of it, after what the text is for
abbrev pub fault_message : (before text : List ℕ) → (byte : ℕ) → (fault : List ℕ) → List ℕ
fault_message before text byte fault = before ++ text ++ codes "`, byte " ++ decimal byte ++ codes ": " ++ fault

-- the message says what is wrong with the text
abbrev pub IsFaultMessage : (before text : List ℕ) → String Global → Type 0
IsFaultMessage before text why = (byte : ℕ) × (fault : List ℕ) × (string_bytes why ≡ fault_message before text byte fault)

-- the text is this PATH, or it is none, which the message says
abbrev pub IsReadPath : (text : List ℕ) → Result Path (String Global) → Type 0
IsReadPath text (Ok p) = IsPath (chars text) (path_says p)
IsReadPath text (Err why) = ((x : PathData) → IsPath (chars text) x → ⊥) × IsFaultMessage (codes "PATH `") text why

-- the text names this entry of each node, or it names none, which the message says
abbrev pub IsReadEntry : (text : List ℕ) → Result Path (String Global) → Type 0
IsReadEntry text (Ok p) = (p.steps.items ≡ []) × IsTarget (chars text) (target_says p.target)
IsReadEntry text (Err why) = ((x : TargetData) → IsTarget (chars text) x → ⊥) × IsFaultMessage (codes "`--entry ") text why
