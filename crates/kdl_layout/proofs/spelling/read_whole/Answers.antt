use Rattle.kdl_layout.proofs.Common.{ap, chars, Here}
use Rattle.kdl_layout.proofs.Respelling.Spellings.{faulty_spells}
use Rattle.kdl_layout.proofs.spelling.read_whole.Goals as goal

pub returns-in-Ok : goal.returns-in-Ok
returns-in-Ok c = c.of_next.ensures (chars c.args.text.now) c.new-cursor.result c.next_token.new.cursor (ap (λ (h : Here). h.rest) c.new-cursor.ensures) c.in-Ok.ensures.lexed

pub returns-in-Err-Faulty : goal.returns-in-Err-Faulty
returns-in-Err-Faulty c =
    let h = rw c.in-Err-Faulty.field-0-is at c.in-Err-Faulty.ensures.lexed in
    faulty_spells (chars c.args.text.now) c.new-cursor.result (ap (λ (h : Here). h.rest) c.new-cursor.ensures) h
