use Rattle.kdl_layout.proofs.Common.{◌++◌, ap, refl, ◌∙◌, Text, text_of, settings, without_bom}
use Rattle.std.specs.Prelude.{unwrap_or}
use Rattle.kdl_layout.proofs.Spacing.Reads.{lines_as}
use Rattle.kdl_layout.proofs.Texts.{content_made}
use Rattle.kdl_layout.proofs.layout.content.Goals as goal

pub returns : goal.returns
returns c = λ ns i p.
    let l = c.args.layout.now in
    let s = settings l.config in
    let first = c.lines_at.new.before in
    let next = c.lines_at-2.new.before in
    let leading = text_of c.in_ok-leading.leading in
    let trailing = text_of c.in_ok-trailing.trailing in (
      leading,
      trailing,
      record {
        last = unwrap_or c.args.last first;
        after_it = next;
        leading = lines_as l.blank_lines s c.args.level first leading refl (c.without_bom.ensures ∙ ap without_bom c.texts_of.ensures.leading) c.in_ok-leading.ensures;
        passes = p first;
        trailing = lines_as l.blank_lines s c.args.level next trailing c.unwrap_or-next.ensures c.texts_of.ensures.trailing c.in_ok-trailing.ensures;
      },
      content_made leading (c.in_ok-push_text.ensures ∙ ap (λ (t : Text). trailing ++ t) (c.content_end.ensures ns i)),
    )
