use Rattle.std.proofs.Common.{◌≡◌, ℕ, ◌^◌, ◌≤◌, length, List, Bor}
use Rattle.std.proofs.Common.{arith}
use Rattle.std.proofs.Common.{ap}
use Rattle.kdl_query.proofs.Exact.Digits.{ten_pos, ten_rises}
use Rattle.kdl_query.proofs.Exact.Parts.{number_absent, text_low, text_high}
use Rattle.kdl_query.proofs.decimal.Digits.digit.Goals as goal

-- src/decimal.rt:48:53
pub pow-requires : goal.pow-requires
pow-requires c = let h : 10 ^ c.args.place ≤ 10 ^ 38 = ten_rises c.args.place 38 (omega arith) in omega arith

-- src/decimal.rt:48:49
pub nonzero_div-result : goal.nonzero_div-result
nonzero_div-result c = omega (arith, ten_pos c.args.place)

-- src/decimal.rt:43:5
pub returns-in-Number-2 : goal.returns-in-Number-2
returns-in-Number-2 c = number_absent c.args.self c.in-Number-2.field-0 c.args.place c.in-Number-2.is c.requires c.if-place-lt39.false

-- src/decimal.rt:43:5
pub returns-in-Text : goal.returns-in-Text
returns-in-Text c = text_low c.args.self _ c.in-Text.fraction c.in-Text.is c.requires c.digit_at.result c.args.place c.if-place-fraction.true c.digit_at.ensures

-- src/decimal.rt:43:5
pub returns-in-Text-2 : goal.returns-in-Text-2
returns-in-Text-2 c = let e : c.in-Text.fraction ≡ c.in-Text-2.fraction = cc in let g : length c.in-Text.fraction.now ≡ length c.in-Text-2.fraction.now = ap (λ (x : Bor (List ℕ)). length x.now) e in
    text_high c.args.self c.in-Text-2.whole c.in-Text-2.fraction c.in-Text-2.is c.requires c.digit_at-in-Text-2.result c.args.place (omega arith) c.digit_at-in-Text-2.ensures
