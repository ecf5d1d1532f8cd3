use Rattle.std.proofs.Common.{not, ◌&&◌, refl}
use Rattle.std.proofs.lemmas.Bool.{agree_below_at}
use Rattle.std.specs.Prelude.{nat_lt}
use Rattle.kdl_text.specs.Chars.{is_space, is_newline_char, is_banned, is_literal, is_unquoted, is_number_sign, is_quote}
use Rattle.kdl_text.specs.Internal.Here.{is_plain}
use Rattle.kdl_text.specs.Internal.Tables.{outside}
use Rattle.kdl_text.specs.declared.chars.TheConstants.{SPACES, LINES, UNQUOTEDS, NUMBER_SIGNS, QUOTES, PLAINS}
use Rattle.kdl_text.proofs.Looking.ClassTables.{table_of_identifier, table_of_literal}
use Rattle.kdl_text.proofs.chars.Class.table.Goals as goal

pub returns-in-Space : goal.returns-in-Space
unfolding is_space
returns-in-Space c = rw c.in-Space.is (λ z. agree_below_at (outside SPACES) (λ z. not (nat_lt z 128 && is_space z)) 256 z refl)

pub returns-in-Identifier : goal.returns-in-Identifier
returns-in-Identifier c = rw c.in-Identifier.is table_of_identifier

pub returns-in-Literal : goal.returns-in-Literal
returns-in-Literal c = rw c.in-Literal.is table_of_literal

pub returns-in-Line : goal.returns-in-Line
unfolding is_newline_char
returns-in-Line c = rw c.in-Line.is (λ z. agree_below_at (outside LINES) (λ z. not (nat_lt z 128 && not (is_newline_char z))) 256 z refl)

pub returns-in-Unquoted : goal.returns-in-Unquoted
unfolding is_newline_char is_banned is_unquoted
returns-in-Unquoted c = rw c.in-Unquoted.is (λ z. agree_below_at (outside UNQUOTEDS) (λ z. not (nat_lt z 128 && is_unquoted z)) 256 z refl)

pub returns-in-NumberSign : goal.returns-in-NumberSign
returns-in-NumberSign c = rw c.in-NumberSign.is (λ z. agree_below_at (outside NUMBER_SIGNS) (λ z. not (nat_lt z 128 && is_number_sign z)) 256 z refl)

pub returns-in-Quote : goal.returns-in-Quote
returns-in-Quote c = rw c.in-Quote.is (λ z. agree_below_at (outside QUOTES) (λ z. not (nat_lt z 128 && is_quote z)) 256 z refl)

pub returns-in-Plain : goal.returns-in-Plain
unfolding is_newline_char is_banned is_literal is_plain
returns-in-Plain c = rw c.in-Plain.is (λ z. agree_below_at (outside PLAINS) (λ z. not (nat_lt z 128 && is_plain z)) 256 z refl)
