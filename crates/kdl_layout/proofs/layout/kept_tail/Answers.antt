use Rattle.kdl_layout.proofs.Common.{[], refl, ap, sym, ◌∙◌, chars, text_of, PlaceItems, ItemsIn, tail, items_view, place_view}
use Rattle.kdl_layout.proofs.Keeping.KeptReads.{kept_empty, kept_items, kept_none, spaces_in, written_after}
use Rattle.kdl_layout.proofs.layout.kept_tail.Goals as goal
use Rattle.kdl_layout.proofs.layout.kept_tail.Goals.{in-Some+in_ok-push_tail, in_default}

pub returns-then-config : goal.returns-then-config
returns-then-config c = kept_none c.args.config.now.no_comments (PlaceItems (place_view c.args.place) (chars c.args.text.now)) tail _ c.if-config.true c.no_text-out.ensures

pub returns-then-is_kdl_space : goal.returns-then-is_kdl_space
returns-then-is_kdl_space c =
    let items = spaces_in (place_view c.args.place) (chars c.args.text.now) (sym c.is_kdl_space.ensures ∙ c.if-is_kdl_space.true) in
    kept_empty c.args.config.now.no_comments (PlaceItems (place_view c.args.place) (chars c.args.text.now)) tail _ items c.no_text-out.ensures refl

pub returns : goal.returns
returns c =
    let has = PlaceItems (place_view c.args.place) (chars c.args.text.now) in
    let empty = c.no_text-out.ensures in
    elim c.match-branch-2.branch [
      | in-Some+in_ok-push_tail w ↦
          kept_items c.args.config.now.no_comments has tail _ _ c.if-config.false (ItemsIn.items (rw w.in-Some.is at c.in_ok-items.ensures))
          (ap text_of w.out-is ∙ written_after tail _ _ _ _ w.in_ok-push_tail.ensures empty (ap items_view w.deref.ensures.value))
      | in_default w ↦ kept_items c.args.config.now.no_comments has tail [] _ c.if-config.false (ItemsIn.no_items (rw w.in_default.is at c.in_ok-items.ensures)) (ap text_of w.out-is ∙ empty)
    ]
