use Rattle.std.proofs.Common.{refl}
use Rattle.kdl_entry.proofs.Reading.IdentifierToken.{no_token_told, empty_told, other_told, more_told, whole_laid}
use Rattle.kdl_entry.proofs.parsing.identifiers.read_token.Goals as goal

pub returns-in-Ok-None : goal.returns-in-Ok-None
returns-in-Ok-None c = empty_told _ c.args.cursor.now c.requires (rw c.in-Ok-None.field-0-is at c.in-Ok-None.ensures.lexed)

pub returns-in-Err : goal.returns-in-Err
returns-in-Err c = no_token_told _ c.args.cursor.now c.next.new.cursor c.in-Err.failure c.requires c.in-Err.ensures.lexed

pub returns-in_default : goal.returns-in_default
returns-in_default c = other_told _ c.args.cursor.now c.next.new.cursor c.in-Ok-Some.token c.requires (rw c.in-Ok-Some.field-0-is at c.in-Ok-Some.ensures.lexed) c.in_default.not-String

pub returns-then-not-is_end : goal.returns-then-not-is_end
returns-then-not-is_end c =
    more_told _ c.args.cursor.now c.next.new.cursor c.in-Ok-Some.token c.requires (rw c.in-Ok-Some.field-0-is at c.in-Ok-Some.ensures.lexed) (λ e. let x = c.if-not-is_end.ensures.1 e in cc)

pub returns : goal.returns
returns c =
    whole_laid _ c.args.cursor.now c.next.new.cursor c.in-Ok-Some.token c.in-String.value _ c.requires (rw c.in-Ok-Some.field-0-is at c.in-Ok-Some.ensures.lexed) c.in-String.is (c.if-not-is_end.ensures.0 refl) (rw c.next.ensures.moves.same at c.in_ok-token_identifier.ensures.is)
