-- The data in rows, whose texts are in the strings that were written.
use mir.Syntax.{w64}
use Rattle.std.specs.Fmt.{signed_decimal}
use Rattle.std.specs.Prelude.{◌≡◌, ◌+◌, ◌++◌, ◌≤◌, ℕ, ℤ, Bool, true, false, pos, FitsSigned, List, Option, Some, None, drop, is_some, length, take}
use Rattle.std.specs.Str.{chars}
use Rattle.kdl.specs.Words.{EntryData, NodeData, Text, Value, said_children, said_name, said_type}
use Rattle.kdl_value.specs.Data as data'
use Rattle.c_calls.specs.declared.row.KdlRow.{KdlRow}

-- bs are the `len` bytes of the strings from `start` on
pub record IsBytes (strings : List ℕ) (start len : ℕ) (bs : List ℕ) : Type 0 where
  pub within : start + len ≤ length strings
  pub reads : take len (drop start strings) ≡ bs

-- t is the text of the `len` bytes of the strings from `start` on
pub record IsText (strings : List ℕ) (start len : ℕ) (t : Text) : Type 0 where
  pub within : start + len ≤ length strings
  pub reads : chars (take len (drop start strings)) ≡ t

-- 1 for true, 0 for false
abbrev pub flag_of : Bool → ℕ
flag_of true = 1
flag_of false = 0

-- `has` is 0 if there is no type; else it is 1, and the type is the text of the `len` bytes of the strings from `start`
-- on
abbrev pub SaysType : List ℕ → ℕ → ℕ → ℕ → Option Text → Type 0
SaysType strings has start len None = has ≡ 0
SaysType strings has start len (Some t) = (has ≡ 1) × IsText strings start len t

-- the kind is 2 for an argument; it is 3 for a property, and the key is in the strings
abbrev pub SaysKey : List ℕ → ℕ → ℕ → ℕ → Option Text → Type 0
SaysKey strings kind start len None = kind ≡ 2
SaysKey strings kind start len (Some t) = (kind ≡ 3) × IsText strings start len t

-- the kind is 2 for an integer of 64 bits, which is in `integer`; it is 3 for any other, whose decimal text is in the
-- strings
abbrev pub SaysInteger : List ℕ → ℕ → ℤ → ℕ → ℕ → ℤ → Type 0
SaysInteger strings kind integer start len z = (FitsSigned w64 z → (kind ≡ 2) × (integer ≡ z)) × ((FitsSigned w64 z → ⊥) → (kind ≡ 3) × IsBytes strings start len (signed_decimal z))

-- the kind of a value, and its number, or its text in the strings
abbrev pub SaysValue : List ℕ → ℕ → ℤ → ℕ → ℕ → Value → Type 0
SaysValue strings kind integer start len (data'.text t) = (kind ≡ 1) × IsText strings start len t
SaysValue strings kind integer start len (data'.integer z) = SaysInteger strings kind integer start len z
SaysValue strings kind integer start len (data'.float t) = (kind ≡ 4) × IsText strings start len t
SaysValue strings kind integer start len (data'.truth b) = (kind ≡ 5) × (integer ≡ pos (flag_of b))
SaysValue strings kind integer start len data'.null = kind ≡ 6

-- each text of the row is in the first n bytes of the strings
abbrev pub IsWithin : ℕ → KdlRow → Type 0
IsWithin n r = (r.name_start + r.name_len ≤ n) × (r.type_start + r.type_len ≤ n) × (r.text_start + r.text_len ≤ n)

-- the row has the data of the entry: its key, its type and its value
pub record SaysEntry (strings : List ℕ) (r : KdlRow) (e : EntryData) : Type 0 where
  pub key : SaysKey strings r.kind r.name_start r.name_len e.key
  pub ty : SaysType strings r.has_type r.type_start r.type_len e.ty
  pub value : SaysValue strings r.value r.integer r.text_start r.text_len e.value

-- the row has the name and the type of the node, and whether it has a block
pub record SaysNode (strings : List ℕ) (r : KdlRow) (n : NodeData) : Type 0 where
  pub kind : r.kind ≡ 1
  pub name : IsText strings r.name_start r.name_len (said_name n)
  pub ty : SaysType strings r.has_type r.type_start r.type_len (said_type n)
  pub block : r.has_block ≡ flag_of (is_some (said_children n))

-- if the `used` bytes fit, they begin with the `used_old` bytes that were written before
abbrev pub Grown : List ℕ → ℕ → List ℕ → ℕ → Type 0
Grown old used_old new used = used ≤ length old → (more : List ℕ) × (take used new ≡ take used_old old ++ more)
