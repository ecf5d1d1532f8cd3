-- Rows whose texts are in the strings that were written.
use Rattle.std.specs.Prelude.{ℕ, ◌+◌, ◌≤◌, List, All, length, take}
use Rattle.std.specs.Str.{chars}
use Rattle.kdl_text.specs.Spans.{InText}
use Rattle.c_calls.specs.Says.{IsWithin}
use Rattle.c_calls.specs.declared.faults.KdlFault.{KdlFault}
use Rattle.c_calls.specs.declared.row.KdlRow.{KdlRow}

-- if the rows and the strings fit, the texts of all rows are in the first `used` bytes of the strings
abbrev pub AreWithin : List KdlRow → ℕ → List ℕ → ℕ → Type 0
AreWithin rows count strings used = count ≤ length rows → used ≤ length strings → All (IsWithin used) (take count rows)

-- the row concerns a piece of the text, and its message is in the first n bytes of the strings
abbrev pub IsTold : List ℕ → ℕ → KdlFault → Type 0
IsTold text n f = InText (chars text) (record { offset = f.start; len = f.len }) × (f.message_start + f.message_len ≤ n)

-- if the rows and the strings fit, each row concerns a piece of the text, and its message is in the strings
abbrev pub AreTold : List ℕ → List KdlFault → ℕ → List ℕ → ℕ → Type 0
AreTold text rows count strings used = count ≤ length rows → used ≤ length strings → All (IsTold text used) (take count rows)
