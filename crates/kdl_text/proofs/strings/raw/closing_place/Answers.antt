use Rattle.std.proofs.Common.{◌≡◌, ◌≤◌, arith}
use Rattle.kdl_text.proofs.Looking.MovesJoin.{moves_then}
use Rattle.kdl_text.proofs.Looking.Parts.{part_moved}
use Rattle.kdl_text.proofs.Looking.SliceCost.{past_two}
use Rattle.kdl_text.proofs.RawStrings.LinesLoop.{few_quotes, closing_at, closed, open_still, signs_past, closing_past}
use Rattle.kdl_text.proofs.strings.raw.closing_place.Goals as goal

pub returns-then-more-lt2 : goal.returns-then-more-lt2
returns-then-more-lt2 c =
    let q = c.count_quotes-more.ensures in
    let still = few_quotes c.args.signs c.count_quotes-more.result c.args.quote.now.rest _ _ c.requires.some c.requires.quote q.reads.text q.reads.stops c.if-more-lt2.true in
    record { found = tt; none = still; past = past_two q.past }

pub returns-then-eat_signs-signs : goal.returns-then-eat_signs-signs
returns-then-eat_signs-signs c =
    let q = c.count_quotes-more.ensures in
    let s = c.eat_signs.ensures in
    let still = open_still c.args.signs c.count_quotes-more.result c.eat_signs.result c.args.quote.now.rest _ _ _ c.requires.some c.requires.quote q.reads.text q.reads.stops s.reads.text s.reads.few s.reads.stops c.if-eat_signs-signs.true in
    record { found = tt; none = still; past = signs_past c.count_quotes-more.result _ _ _ q.reads.text (omega arith) q.past s.past }

pub returns : goal.returns
returns c =
    let q = c.count_quotes-more.ensures in
    let s = c.eat_signs.ensures in
    let some : 2 ≤ c.count_quotes-more.result = omega arith in
    let all : c.eat_signs.result ≡ c.args.signs = omega (arith, s.reads.few) in
    let at = closing_at c.args.signs c.count_quotes-more.result c.eat_signs.result c.args.quote.now.rest _ _ _ c.requires.some c.requires.quote q.reads.text q.reads.stops s.reads.text s.reads.few s.reads.stops some all in
    let back = c.after_quotes.ensures.returned in
    record {
      found = rw back.rest (closed c.args.signs c.count_quotes-more.result c.eat_signs.result c.args.quote.now.rest _ _ _ c.requires.some c.requires.quote q.reads.text q.reads.stops s.reads.text s.reads.few s.reads.stops c.after_quotes.result.rest some all (c.after_quotes.ensures.following _ at));
      none = tt;
      past = closing_past c.count_quotes-more.result _ _ _ _ q.reads.text some q.past s.past back;
    }

pub after_quotes-requires : goal.after_quotes-requires
after_quotes-requires c = part_moved c.requires.part (moves_then c.count_quotes-more.ensures.past.moves c.eat_signs.ensures.past.moves)
