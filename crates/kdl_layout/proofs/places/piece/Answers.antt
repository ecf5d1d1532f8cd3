use Rattle.kdl_layout.proofs.Common.{chars}
use Rattle.kdl_layout.proofs.Dropping.TokenLoop.{piece_of, piece_cut, piece_between}
use Rattle.kdl_layout.proofs.places.piece.Goals as goal

pub overflow_sub-text : goal.overflow_sub-text
overflow_sub-text c =
    let (p, r, e, n) = c.requires.at in
    (piece_of c.args.text.now c.cut.result.1.now (chars c.args.following.now) r (chars c.cut.result.0.now) c.args.at c.utf8.text c.cut.ensures.text.1 c.requires.dash (p, e, n) c.cut.ensures.parts).most

pub cut-requires-2 : goal.cut-requires-2
cut-requires-2 c =
    let (p, r, e, n) = c.requires.at in
    piece_cut c.args.text.now c.cut.result.1.now r (piece_of c.args.text.now c.cut.result.1.now (chars c.args.following.now) r (chars c.cut.result.0.now) c.args.at c.utf8.text c.cut.ensures.text.1 c.requires.dash (p, e, n) c.cut.ensures.parts)

pub returns : goal.returns
returns c = λ p r e n.
    let q = piece_of c.args.text.now c.cut.result.1.now (chars c.args.following.now) r (chars c.cut.result.0.now) c.args.at c.utf8.text c.cut.ensures.text.1 c.requires.dash (p, e, n) c.cut.ensures.parts in
    (piece_between c.args.text.now c.cut.result.1.now (chars c.args.following.now) r (chars c.cut-2.result.0.now) (chars c.cut-2.result.1.now) q c.requires.dash c.cut-2.ensures.parts, q.rest)
