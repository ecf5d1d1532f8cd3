use Rattle.kdl_syntax.proofs.Lexing.TokenReads.{decimal_float}
use Rattle.kdl_query.proofs.Testing.{number_piece, decimal_piece, no_number_piece}
use Rattle.kdl_query.proofs.parse.literals.number.Goals as goal

pub parsed_float-requires : goal.parsed_float-requires
parsed_float-requires c = decimal_float _ c.read_number.new.cursor.rest c.in-Ok-Decimal.text (rw c.in-Ok-Decimal.field-0-is at c.in-Ok-Decimal.ensures.reads)

pub returns-in-Ok-Integer : goal.returns-in-Ok-Integer
returns-in-Ok-Integer c = record { returns = number_piece _ _ c.in-Ok-Integer.n (rw c.in-Ok-Integer.field-0-is at c.in-Ok-Integer.ensures.reads); moves = c.in-Ok-Integer.ensures.moves }

pub returns-in-Ok-Decimal : goal.returns-in-Ok-Decimal
returns-in-Ok-Decimal c = record { returns = decimal_piece _ _ _ c.in-Ok-Decimal.text (rw c.in-Ok-Decimal.field-0-is at c.in-Ok-Decimal.ensures.reads) c.parsed_float.ensures; moves = c.in-Ok-Decimal.ensures.moves }

pub returns-in-Err-Fault : goal.returns-in-Err-Fault
returns-in-Err-Fault c = record { returns = no_number_piece _ c.requires (rw c.in-Err-Fault.field-0-is at c.in-Err-Fault.ensures.reads); moves = c.in-Err-Fault.ensures.moves }
