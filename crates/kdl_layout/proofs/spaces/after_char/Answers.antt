use Rattle.kdl_layout.proofs.Common.{sym, ap, ◌∷◌, ◌∙◌, chars, Text}
use Rattle.kdl_layout.proofs.Listing.Starts.{ate_moves, cut_len, parts_at}
use Rattle.kdl_layout.proofs.spaces.after_char.Goals as goal

pub cut-requires : goal.cut-requires
cut-requires c =
    let m = ate_moves (chars c.args.text.now) c.args.c c.eat.result c.new-cursor.result c.eat.new.self (c.new.result, c.new-cursor.ensures) c.eat.ensures c.if-eat.true in
    let (p, q) = cut_len (chars c.args.text.now) c.new-cursor.result c.eat.new.self (c.new.result, c.new-cursor.ensures) m.0 in
    (m.0.piece.0, c.eat.new.self.rest, p, q ∙ sym c.at.ensures)

pub returns-then-eat : goal.returns-then-eat
returns-then-eat c =
    let m = ate_moves (chars c.args.text.now) c.args.c c.eat.result c.new-cursor.result c.eat.new.self (c.new.result, c.new-cursor.ensures) c.eat.ensures c.if-eat.true in
    let p = parts_at (chars c.args.text.now) (chars c.cut.result.0.now) (chars c.cut.result.1.now) c.at.result c.new-cursor.result c.eat.new.self (c.new.result, c.new-cursor.ensures) m.0 c.at.ensures c.cut.ensures.parts in
    m.1 ∙ ap (λ (z : Text). c.args.c ∷ z) (sym p.0)
