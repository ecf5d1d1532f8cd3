use Rattle.std.proofs.Common.{rules, arith, ◌≡◌, ◌++◌, ◌<◌, ◌^◌, ◌-◌, List, ℕ, length, take, drop, refl}
use Rattle.std.proofs.lemmas.Grind.{common_steps}
use Rattle.c_calls.proofs.Fitting.{put_more}
use Rattle.c_calls.proofs.text.put_string.Goals as goal

pub returns-then-used-strings-clause-put : goal.returns-then-used-strings-clause-put
returns-then-used-strings-clause-put c = λ before ts h.
    let now = c.args.strings.now in
    let new : List ℕ = c.split_at_mut-room.result.0.now ++ c.copy_from_slice.new.self ++ c.split_at_mut-head.result.1.now in
    let small : length now < 2 ^ 64 - 1 = search rules in
    let whole : new ≡ take c.args.used.now now ++ c.args.text.now ++ drop c.saturating_add.result now = grind (arith, common_steps) in
    put_more before ts c.args.text.now now new c.args.used.now c.saturating_add.result h small (search rules) (λ _. whole) (λ k. absurd (omega (arith, k, c.if-used-strings.true)))

pub returns-else-used-strings-clause-put : goal.returns-else-used-strings-clause-put
returns-else-used-strings-clause-put c = λ before ts h.
    let now = c.args.strings.now in
    let small : length now < 2 ^ 64 - 1 = search rules in
    put_more before ts c.args.text.now now now c.args.used.now c.saturating_add.result h small (search rules) (λ k. absurd (omega (arith, k, c.if-used-strings.false))) (λ _. refl)
