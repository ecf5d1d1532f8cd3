use Rattle.std.proofs.Common.{rules, ◌<◌, ◌^◌, ap, arith, chars, length, ◌∙◌}
use Rattle.std.specs.Str.{IsUtf8}
use Rattle.lsp_text.specs.Positions.{index_of_byte, position}
use Rattle.lsp_text.proofs.Places.{size-bytes}
use Rattle.lsp_text.proofs.Walking.{place_near, reached}
use Rattle.lsp_text.proofs.cursor.Cursor.position.Goals as goal

pub walk-end-requires-clause-line : goal.walk-end-requires-clause-line
walk-end-requires-clause-line c =
    let f = c.not_after-from.result in
    let small : length f.text.now < 2 ^ 63 = search rules in
    let utf8 : IsUtf8 f.text.now = search rules in
    omega (arith, small, size-bytes f.text.now utf8, (place_near f.encoding (chars f.text.now) (chars f.rest.now) f.at f.position f.is_place).0)

pub walk-end-requires-clause-character : goal.walk-end-requires-clause-character
walk-end-requires-clause-character c =
    let f = c.not_after-from.result in
    let small : length f.text.now < 2 ^ 63 = search rules in
    let utf8 : IsUtf8 f.text.now = search rules in
    omega (arith, small, size-bytes f.text.now utf8, (place_near f.encoding (chars f.text.now) (chars f.rest.now) f.at f.position f.is_place).1)

pub invariant_of-self : goal.invariant_of-self
invariant_of-self c =
    let f = c.not_after-from.result in
    let w = c.walk-end in
    let r = reached f.encoding (chars f.text.now) (chars f.rest.now) (chars w.result.rest.now) f.at c.args.offset w.result.left f.position w.result.position f.is_place c.not_after-from.ensures.at
    w.ensures.position w.ensures.rest w.ensures.left in
    record { is_place = r.place }

pub returns-clause-position : goal.returns-clause-position
returns-clause-position c =
    let f = c.not_after-from.result in
    let w = c.walk-end in
    let r = reached f.encoding (chars f.text.now) (chars f.rest.now) (chars w.result.rest.now) f.at c.args.offset w.result.left f.position w.result.position f.is_place c.not_after-from.ensures.at
    w.ensures.position w.ensures.rest w.ensures.left in
    r.position ∙ ap (λ z. position z (index_of_byte c.args.offset (chars f.text.now)) (chars f.text.now)) c.not_after-from.ensures.encoding
    ∙ ap (λ z. position c.args.self.now.encoding (index_of_byte c.args.offset (chars z)) (chars z)) c.not_after-from.ensures.text
