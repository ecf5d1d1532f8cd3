use Rattle.std.proofs.Common.{rules, ◌∙◌, ◌<◌, ◌^◌, arith, chars, length}
use Rattle.lsp_text.specs.Positions.{index_of_byte}
use Rattle.lsp_text.proofs.Places.{size-bytes, walked_position}
use Rattle.lsp_text.proofs.place.position_of.Goals as goal

pub returns : goal.returns
returns c = c.walk.ensures.position ∙ walked_position c.args.encoding (index_of_byte c.args.offset (chars c.args.text.now)) (chars c.args.text.now)

pub walk-requires-clause-line : goal.walk-requires-clause-line
walk-requires-clause-line c = let small : length c.args.text.now < 2 ^ 63 = search rules in omega (arith, small, size-bytes c.args.text.now c.utf8.text)

pub walk-requires-clause-character : goal.walk-requires-clause-character
walk-requires-clause-character c = let small : length c.args.text.now < 2 ^ 63 = search rules in omega (arith, small, size-bytes c.args.text.now c.utf8.text)
