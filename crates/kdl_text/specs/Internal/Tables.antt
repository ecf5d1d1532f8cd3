-- Tables of ASCII characters: bit h of entry l is for the character 16 * h + l.
use Rattle.std.specs.Prelude.{◌≡◌, ℕ, ◌<◌, ◌≤◌, ◌/◌, ◌==◌, ◌&&◌, Bool, true, false, not, List, length, get_or, bit_and, nat_lt}
use Rattle.kdl_text.specs.declared.tables.TheConstants.{ROW_BITS}

-- the number of the character's column
abbrev pub column_of : List ℕ → ℕ → ℕ
column_of table c = get_or table (bit_and c 15) 0

-- the bit of the character's row, and 0 if it is not an ASCII character
abbrev pub row_of : ℕ → ℕ
row_of c = get_or ROW_BITS (c / 16) 0

-- the byte is no character of the table
abbrev pub outside : List ℕ → ℕ → Bool
outside table c = bit_and (column_of table c) (row_of c) == 0

-- the table has exactly the ASCII characters of the class
abbrev pub TableOf : (ℕ → Bool) → List ℕ → Type 0
TableOf p table = (c : ℕ) → c < 256 → outside table c ≡ not (nat_lt c 128 && p c)

-- n bytes at the front do not pass p, and the byte after them does
pub record Until (p : ℕ → Bool) (bytes : List ℕ) (n : ℕ) : Type 0 where
  pub within : n ≤ length bytes
  pub inside : (k : ℕ) → k < n → p (get_or bytes k 0) ≡ false
  pub stops : n < length bytes → p (get_or bytes n 0) ≡ true

-- n bytes at the front are in the table, and the byte after them is not
abbrev pub InsideLen : List ℕ → List ℕ → ℕ → Type 0
InsideLen table bytes n = Until (outside table) bytes n
