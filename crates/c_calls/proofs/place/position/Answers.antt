use Rattle.std.proofs.Common.{rules, ◌≡◌, drop, length, take, true, false, None}
use Rattle.std.specs.Str.{IsUtf8, chars}
use Rattle.kdl_text.specs.Chars.{begins}
use Rattle.c_calls.proofs.PositionSteps.{boundary, cut, not_there, position_at}
use Rattle.c_calls.proofs.place.position.Goals as goal

pub returns-in_default-clause-missing : goal.returns-in_default-clause-missing
returns-in_default-clause-missing c = λ _ before after whole there.
    let none : c.split_at_checked.result ≡ None = search rules in
    not_there c.split_at_checked.result none (c.split_at_checked.ensures.variant.1 (boundary c.args.text.now c.args.offset before after c.utf8.text whole there))

pub returns-then-begins_with_feed-clause-found : goal.returns-then-begins_with_feed-clause-found
returns-then-begins_with_feed-clause-found c =
    let t = c.args.text.now in
    let b = c.in-Some.before.now in
    let a = c.in-Some.after.now in
    let p = c.place_after-place in
    let ub : IsUtf8 b = search rules in
    let front : b ≡ take c.args.offset t = search rules in
    let back : a ≡ drop c.args.offset t = search rules in
    let len : length b ≡ c.args.offset = search rules in
    let feed : begins 10 (chars a) ≡ true = search rules in
    position_at t b a c.args.offset p.result.line p.result.column p.result true ub (cut t b a c.args.offset front back) len p.ensures.after feed (search rules) (search rules)

pub returns-else-begins_with_feed-clause-found : goal.returns-else-begins_with_feed-clause-found
returns-else-begins_with_feed-clause-found c =
    let t = c.args.text.now in
    let b = c.in-Some.before.now in
    let a = c.in-Some.after.now in
    let p = c.place_after-place in
    let e = c.ended in
    let ub : IsUtf8 b = search rules in
    let front : b ≡ take c.args.offset t = search rules in
    let back : a ≡ drop c.args.offset t = search rules in
    let len : length b ≡ c.args.offset = search rules in
    let feed : begins 10 (chars a) ≡ false = search rules in
    position_at t b a c.args.offset e.result.line e.result.column p.result false ub (cut t b a c.args.offset front back) len p.ensures.after feed e.ensures.line e.ensures.column
