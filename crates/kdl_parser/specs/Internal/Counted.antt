-- The steps of a parse: for the tokens, and for the texts that the builder slices.
use Rattle.std.specs.Prelude.{ℕ, ◌+◌, ◌*◌, ◌≤◌, length, Result, Ok, Err}
use Rattle.kdl_text.specs.Internal.Here.{Here}
use Rattle.kdl_text.specs.Spans.{bytes, raise}
use Rattle.kdl_syntax.specs.declared.control.Phase.{Phase}
use Rattle.kdl_syntax.specs.declared.control.Phase.TheVariants.{TypeOpen, TypeName, TypeDone, Property}
use Rattle.kdl_entry.specs.Internal.Counted.{Sliced}
use Rattle.kdl_syntax.specs.declared.lexer.LexFailure.{LexFailure}
use Rattle.kdl_syntax.specs.declared.lexer.LexFailure.TheVariants.{Faulty, Memory}
use Rattle.kdl_parser.specs.declared.builder.Builder.{Builder}
use Rattle.kdl_parser.specs.declared.builder.dropping.Dropped.{Dropped}
use Rattle.kdl_parser.specs.declared.builder.dropping.Dropped.TheVariants.{Nothing}

-- inside a type, and after the `=` of a property, the bytes from the start of the entry's current place on; else those from the start of the builder's place on
abbrev pub unsliced_in : Phase → ℕ → ℕ → ℕ
unsliced_in (TypeOpen o) from item = item
unsliced_in (TypeName o) from item = item
unsliced_in (TypeDone o) from item = item
unsliced_in Property from item = item
unsliced_in _ from item = from

-- of what is slashdashed nothing is sliced
abbrev pub unsliced_at : Dropped → Phase → ℕ → ℕ → ℕ
unsliced_at Nothing p from item = unsliced_in p from item
unsliced_at _ p from item = from

-- the bytes before the end of the text that were not sliced yet
abbrev pub unsliced : {N : Type 0} → Builder N → ℕ
unsliced b = unsliced_at b.dropped b.phase (bytes b.from.rest) (bytes b.parts.from.rest)

-- of the m bytes before the end of the text that were not sliced yet, all but the last n may have been; if a token is refused, all may have been
abbrev pub SlicedOn : {A : Type 0} → Result A LexFailure → ℕ → ℕ → ℕ → ℕ → Type 0
SlicedOn (Ok x) m n old new = Sliced m n old new
SlicedOn (Err Faulty) m n old new = Sliced m 0 old new
SlicedOn (Err Memory) m n old new = Unit {0}

-- the text before the lexer was read to its end, with so many steps then: at least a step for each character, and at most 26 for each byte
pub record ReadThrough (old : Here) (steps : ℕ) : Type 0 where
  pub least : raise old.steps (length old.rest) ≤ steps
  pub most : steps ≤ old.steps + 26 * bytes old.rest + 1

-- it was read to its end, or up to where it is refused: at most 26 steps for each byte, and 24 more
abbrev pub ReadOn : {A : Type 0} → Result A LexFailure → Here → ℕ → Type 0
ReadOn (Ok x) old steps = ReadThrough old steps
ReadOn (Err Faulty) old steps = steps ≤ old.steps + 26 * bytes old.rest + 24
ReadOn (Err Memory) old steps = Unit {0}
