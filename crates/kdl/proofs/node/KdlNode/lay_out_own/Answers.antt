use Rattle.kdl.proofs.Common.{rules, ◌≡◌, Bool, Bor, None, Option, Some, option_map, map, ◌+◌, refl, subst, is_some, child_nodes, node_tree, entry_tree, identifier_tree, KdlIdentifier, Keeps, SpellingRule, node_format_tree, the_lemmas, out-KdlNode}
use Rattle.std.specs.Option.{option_copied}
use Rattle.kdl_layout.proofs.Respelling.Kept.{typed_put}
use Rattle.kdl.proofs.LayingOut.OneLine.{own_spaced}
use Rattle.kdl.proofs.LayingOut.PartsSpaced.{own_passes, fitting_node, nodes_fit}
use Rattle.kdl.proofs.LayingOut.StaysReading.{own_stays}
use Rattle.kdl.proofs.node.KdlNode.lay_out_own.Goals as goal

-- what is done with the spelling of the type, which is borrowed
keeps_of : (keep : Bool) (x : SpellingRule) (o : Option (Bor KdlIdentifier)) (p : Option KdlIdentifier) → option_copied o ≡ p → Keeps keep (option_map (λ i. identifier_tree i.now) o) x → Keeps keep (option_map identifier_tree p) x
keeps_of keep x None p e k = subst (λ (z : Option KdlIdentifier). Keeps keep (option_map identifier_tree z) x) e k
keeps_of keep x (Some i) p e k = subst (λ (z : Option KdlIdentifier). Keeps keep (option_map identifier_tree z) x) e k

pub returns-in_err-lay_out_entries-clause-stays : goal.returns-in_err-lay_out_entries-clause-stays
returns-in_err-lay_out_entries-clause-stays c ok e =
    own_stays c.args.layout.now ok c.args.level c.args.next c.args.self.now _ (is_some (out-KdlNode c.args.self.now).children) refl c.in_ok-type_spelling.type_spelling c.in_ok-name_spelling.name_spelling (keeps_of _ _ _ _ c.as_ref.ensures.value c.in_ok-type_spelling.ensures) c.in_ok-name_spelling.ensures (search (rules, the_lemmas)) (search (rules, the_lemmas))
    (option_map node_format_tree c.lay_out_line.new.format) (c.in_ok-following.ensures.spaced c.args.level (is_some (out-KdlNode c.args.self.now).children) e c.last_place-last.ensures).0 (typed_put _ _ (out-KdlNode c.args.self.now).ty _ _ _ _ (search (rules, the_lemmas)) c.in_ok-types.ensures (search (rules, the_lemmas)))
    _ (map entry_tree c.lay_out_entries.new.entries.items) (search (rules, the_lemmas)) (search (rules, the_lemmas)) c.lay_out_entries.ensures.reads (search (rules, the_lemmas))

pub returns-clause-stays : goal.returns-clause-stays
returns-clause-stays c ok e =
    own_stays c.args.layout.now ok c.args.level c.args.next c.args.self.now _ (is_some (out-KdlNode c.args.self.now).children) refl c.in_ok-type_spelling.type_spelling c.in_ok-name_spelling.name_spelling (keeps_of _ _ _ _ c.as_ref.ensures.value c.in_ok-type_spelling.ensures) c.in_ok-name_spelling.ensures (search (rules, the_lemmas)) (search (rules, the_lemmas))
    (option_map node_format_tree c.lay_out_line.new.format) (c.in_ok-following.ensures.spaced c.args.level (is_some (out-KdlNode c.args.self.now).children) e c.last_place-last.ensures).0 (typed_put _ _ (out-KdlNode c.args.self.now).ty _ _ _ _ (search (rules, the_lemmas)) c.in_ok-types.ensures (search (rules, the_lemmas)))
    _ (map entry_tree c.lay_out_entries.new.entries.items) (search (rules, the_lemmas)) (search (rules, the_lemmas)) c.lay_out_entries.ensures.reads (search (rules, the_lemmas))

pub returns-clause-spaced : goal.returns-clause-spaced
returns-clause-spaced c e =
    let l = c.args.layout.now in
    let n = c.args.self.now in
    let first = c.in_ok-first.first in
    let olds = map node_tree (child_nodes n) in
    let has = is_some (out-KdlNode n).children in
    let line = c.in_ok-following.ensures.spaced c.args.level has e c.last_place-last.ensures in (
      own_passes l n c.in_ok-following.following (out-KdlNode n).format refl line.1,
      λ ms z. own_spaced l _ n c.args.level c.args.next has c.in_ok-first.around ms refl
          c.in_ok-type_spelling.type_spelling c.in_ok-name_spelling.name_spelling (keeps_of _ _ _ _ c.as_ref.ensures.value c.in_ok-type_spelling.ensures) c.in_ok-name_spelling.ensures (search (rules, the_lemmas)) (search (rules, the_lemmas)) (search (rules, the_lemmas))
          (option_map node_format_tree c.lay_out_line.new.format) line.0 (typed_put _ _ (out-KdlNode c.args.self.now).ty _ _ _ _ (search (rules, the_lemmas)) c.in_ok-types.ensures (search (rules, the_lemmas)))
          (search (rules, the_lemmas)) (search (rules, the_lemmas)) (c.in_ok-first.ensures e ms z)
          (fitting_node n (search (rules, the_lemmas)) (nodes_fit l (c.args.level + 1) first olds ms z)),
    )
