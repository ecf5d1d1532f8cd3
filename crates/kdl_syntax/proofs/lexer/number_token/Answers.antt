use Rattle.std.proofs.Common.{arith}
use Rattle.kdl_syntax.proofs.Lexing.TokenCost.{faulty_costs}
use Rattle.kdl_syntax.proofs.Lexing.TokenReads.{integer_here, decimal_float, decimal_here, no_number_here, number_costs}
use Rattle.kdl_syntax.proofs.lexer.number_token.Goals as goal

pub parsed_float-requires : goal.parsed_float-requires
parsed_float-requires c = decimal_float _ c.read_number.new.cursor.rest c.in-Ok-Decimal.text (rw c.in-Ok-Decimal.field-0-is at c.in-Ok-Decimal.ensures.reads)

pub returns-in-Ok-Integer-clause-read : goal.returns-in-Ok-Integer-clause-read
returns-in-Ok-Integer-clause-read c = integer_here _ _ c.in-Ok-Integer.n (rw c.in-Ok-Integer.field-0-is at c.in-Ok-Integer.ensures.reads)

pub returns-in-Ok-Integer-clause-costs : goal.returns-in-Ok-Integer-clause-costs
returns-in-Ok-Integer-clause-costs c = number_costs c.in-Ok-Integer.field-0 _ _ c.in-Ok-Integer.ensures.reads c.in-Ok-Integer.ensures.moves c.in-Ok-Integer.ensures.costs

pub returns-in-Ok-Decimal-clause-read : goal.returns-in-Ok-Decimal-clause-read
returns-in-Ok-Decimal-clause-read c = decimal_here _ _ _ c.in-Ok-Decimal.text (rw c.in-Ok-Decimal.field-0-is at c.in-Ok-Decimal.ensures.reads) c.parsed_float.ensures

pub returns-in-Ok-Decimal-clause-costs : goal.returns-in-Ok-Decimal-clause-costs
returns-in-Ok-Decimal-clause-costs c = number_costs c.in-Ok-Decimal.field-0 _ _ c.in-Ok-Decimal.ensures.reads c.in-Ok-Decimal.ensures.moves c.in-Ok-Decimal.ensures.costs

pub returns-in-Err-Fault-clause-read : goal.returns-in-Err-Fault-clause-read
returns-in-Err-Fault-clause-read c = no_number_here _ c.read_number.new.cursor.rest c.requires (rw c.in-Err-Fault.field-0-is at c.in-Err-Fault.ensures.reads)

pub returns-in-Err-Fault-clause-costs : goal.returns-in-Err-Fault-clause-costs
returns-in-Err-Fault-clause-costs c = faulty_costs 4 12 20 c.args.cursor.now c.read_number.new.cursor c.read_number.ensures.most c.read_number.ensures.moves (omega arith) (omega arith)
