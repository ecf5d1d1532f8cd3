use Rattle.std.proofs.Common.{rules, ◌≡◌, ◌++◌, ◌∷◌, [], refl, false, length, map, None, Some, is_none, slice_get, sym, ap, ◌∙◌, append-nil}
use Rattle.std.proofs.lemmas.Option.{slice_get_past, slice_get_read}
use Rattle.kdl_path.proofs.Reached.{found_at, found_past, one_found}
use Rattle.kdl_path.proofs.lookup.push_named.Goals as goal

pub returns-in_ok-push : goal.returns-in_ok-push
returns-in_ok-push c =
    let ns = c.args.nodes.now in
    let at = c.in-Some.index in
    let n = c.in-Some-get.node in
    let some : is_none c.args.step.now.index ≡ false = search rules in
    let there : slice_get ns at ≡ Some n.now = slice_get_read ns (length ns) at n.now refl (search rules) (search rules) in
    let items : c.push.new.self.items ≡ c.args.out.now.items ++ (n ∷ []) = search rules in
    one_found c.args.out.now.items c.push.new.self.items n _ items (found_at c.args.step.now ns at n.now some c.in-Some.ensures there)

pub returns-in_default-get : goal.returns-in_default-get
returns-in_default-get c =
    let ns = c.args.nodes.now in
    let at = c.in-Some.index in
    let some : is_none c.args.step.now.index ≡ false = search rules in
    let past : slice_get ns at ≡ None = slice_get_past ns at (search rules) in
    let before = map (λ n. n.now) c.args.out.now.items in
    sym (append-nil before) ∙ ap (λ l. before ++ l) (sym (found_past c.args.step.now ns at some c.in-Some.ensures past))
