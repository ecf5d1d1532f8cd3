use Rattle.kdl_layout.proofs.Common.{chars}
use Rattle.kdl_layout.proofs.Listing.Starts.{token_before, token_read}
use Rattle.kdl_layout.proofs.spaces.start_of.Goals as goal

pub token_start-requires-clause-at : goal.token_start-requires-clause-at
token_start-requires-clause-at c = token_before (chars c.args.text.now) c.new-cursor.result c.next.new.cursor c.in-Ok-Some.token (c.new.result, c.new-cursor.ensures) c.next.ensures.moves (rw c.in-Ok-Some.field-0-is at c.in-Ok-Some.ensures.lexed)

pub token_start-requires-clause-token : goal.token_start-requires-clause-token
token_start-requires-clause-token c =
    let a = rw c.in-Ok-Some.field-0-is at c.in-Ok-Some.ensures.alone in
    token_read (chars c.args.text.now) c.new-cursor.result c.next.new.cursor c.in-Ok-Some.token (c.new.result, c.new-cursor.ensures) (rw c.in-Ok-Some.field-0-is at c.in-Ok-Some.ensures.lexed) a
