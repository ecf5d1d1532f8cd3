use Rattle.std.proofs.Common.{rules, ◌≡◌, ℕ, Option, None, ◌++◌, ◌-◌, ap, ◌∙◌, length, sym, take}
use Rattle.std.specs.Option.{option_to_list}
use Rattle.kdl_path.specs.Internal.Cursor.{indices}
use Rattle.kdl_path.proofs.Cursors.{up_path}
use Rattle.kdl_path.proofs.cursor.Cursor.up.Goals as goal

pub returns-in_ok-leave-clause-path : goal.returns-in_ok-leave-clause-path
returns-in_ok-leave-clause-path c =
    let o = c.args.self.now in
    let now = c.leave.new.self in
    let was : o.last ≡ None = search rules in
    let none : now.last ≡ None = search rules in
    let p = indices o.above.items in
    ap (λ (x : Option ℕ). indices now.above.items ++ option_to_list x) none
    ∙ up_path (indices now.above.items) p c.in_ok-leave.field-0 c.in_ok-leave.ensures.above (λ e. ap indices (c.in_ok-leave.ensures.none e).1)
    ∙ ap (λ (x : Option ℕ). take (length (p ++ option_to_list x) - 1) (p ++ option_to_list x)) (sym was)
