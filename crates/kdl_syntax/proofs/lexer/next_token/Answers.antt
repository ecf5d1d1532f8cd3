use Rattle.std.proofs.Common.{sym, ap, ◌∙◌}
use Rattle.kdl_text.specs.Internal.Here.{Here, first}
use Rattle.kdl_syntax.proofs.Lexing.Slashes.{no_word_next, no_word_costs}
use Rattle.kdl_syntax.proofs.Lexing.TokenCost.{token_costs, failure_costs}
use Rattle.kdl_syntax.proofs.Lexing.TokenReads.{spaces_costs}
use Rattle.kdl_syntax.proofs.lexer.next_token.Goals as goal

pub returns-then-is_space-clause-costs : goal.returns-then-is_space-clause-costs
returns-then-is_space-clause-costs c =
    let here = ap (λ (h : Here). first h.rest) c.look.ensures.moved ∙ sym c.in-Some.ensures.result in
    let spaces = spaces_costs c.in-Some.c c.look.new.self c.skip.new.self here (sym c.is_space.ensures ∙ c.if-is_space.true) c.skip.ensures in
    token_costs c.args.cursor.now c.look.new.self c.skip.new.self c.look.ensures.moved spaces

pub returns-in_err-kind-clause-costs : goal.returns-in_err-kind-clause-costs
returns-in_err-kind-clause-costs c =
    failure_costs c.from_residual.result c.in_err-kind.field-0.0 c.args.cursor.now c.look.new.self c.token_kind.new.cursor c.from_residual.ensures.1 c.look.ensures.moved c.token_kind.ensures.moves c.in_err-kind.ensures.costs

pub returns-in_default-letter_string-clause-lexed : goal.returns-in_default-letter_string-clause-lexed
returns-in_default-letter_string-clause-lexed c =
    let here = ap (λ (h : Here). first h.rest) c.look.ensures.moved ∙ sym c.in-Some.ensures.result in
    let letter = sym c.is_ascii_alphabetic.ensures.value ∙ c.if-is_ascii_alphabetic.true in
    no_word_next c.args.cursor.now c.look.new.self c.letter_string.new.cursor c.look.ensures.moved c.in-Some.c here letter c.in_default-letter_string.ensures.only

pub returns-in_default-letter_string-clause-costs : goal.returns-in_default-letter_string-clause-costs
returns-in_default-letter_string-clause-costs c = no_word_costs c.args.cursor.now c.look.new.self c.letter_string.new.cursor c.look.ensures.moved c.letter_string.ensures.moves c.letter_string.ensures.costs
