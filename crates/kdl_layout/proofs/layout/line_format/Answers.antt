use Rattle.kdl_layout.proofs.Common.{◌++◌, ◌∷◌, [], Some, refl, ap, subst, ◌∙◌, List, ℕ, chars, Text, node_format_tree, text_of, past_node, settings, KeptBeforeBlock, KeptEnd, SpacedLines, NodeTexts, line_of}
use Rattle.kdl_layout.proofs.Keeping.KeptReads.{tail_at}
use Rattle.kdl_layout.proofs.Spacing.Reads.{lines_after, lines_as}
use Rattle.kdl_layout.proofs.Texts.{line_put, put_text, space_text, newline_text}
use Rattle.kdl_layout.proofs.layout.line_format.Goals as goal

pub returns-clause-spaced : goal.returns-clause-spaced
returns-clause-spaced c = λ level has h p.
    let l = c.args.layout.now in
    let s = settings l.config in
    let old = c.args.format.now in
    let kept = c.in_ok-kept.ensures level h in
    let end = c.in_ok-before_end.ensures in
    let next = c.lines_between.new.before in
    let before = text_of c.in_ok-kept.kept in
    let block = text_of c.in_ok-kept-2.kept in
    let comment = text_of c.in_ok-before_end.comment in
    let trailing = text_of c.in_ok-trailing.trailing in
    let following : SpacedLines l.blank_lines s level (past_node (text_of old.terminator)) (text_of old.trailing) trailing next =
    lines_after l.blank_lines s level c.after_end-next.result (past_node (text_of old.terminator)) next (text_of old.trailing) trailing
    (λ n. c.after_end-next.ensures n ∙ ap (λ (x : List ℕ). past_node (chars x)) c.as_str-5.ensures.value)
    (lines_as l.blank_lines s level next trailing refl (ap chars c.as_str-6.ensures.value) (c.in_ok-trailing.ensures level h)) in
    let k : NodeTexts = record {
      before = before;
      before_block = block;
      last = text_of c.in_ok-kept-3.kept;
      space = end.0;
      comment = comment;
      following = trailing;
    } in
    let leading_is = put_text _ c.in_ok-leading.leading c.put.new.old (chars c.args.margin.now) (before ++ chars c.args.margin.now) c.in_ok-leading.ensures.ready c.put.ensures in
    let children_is = put_text _ c.in_ok-before_children.before_children c.put-2.new.old (chars (32 ∷ [])) (block ++ chars (32 ∷ [])) c.in_ok-before_children.ensures.ready c.put-2.ensures
    ∙ ap (λ (t : Text). block ++ t) space_text in
    let terminator_is = put_text _ c.in_ok-terminator.terminator c.put-3.new.old (chars (10 ∷ [])) (comment ++ chars (10 ∷ [])) c.in_ok-terminator.ensures.ready c.put-3.ensures
    ∙ ap (λ (t : Text). comment ++ t) newline_text in (
      (
        k,
        record {
          lines = kept.0;
          at_node = kept.1;
          after_it = next;
          leading = lines_as l.blank_lines s level {b = c.args.before} {c = c.args.before} kept.1 kept.0 refl (ap chars c.as_str.ensures.value) kept.2;
          before = kept.3;
          before_block = subst (λ (t : Text). KeptBeforeBlock s has t block) (ap chars c.as_str-2.ensures.value) (c.in_ok-kept-2.ensures has p);
          last = tail_at s _ p (ap chars c.as_str-3.ensures.value) c.in_ok-kept-3.ensures;
          end = subst (λ (t : Text). KeptEnd l.config.no_comments t end.0 comment) (ap chars c.as_str-4.ensures.value) end.1;
          following = following;
        },
        ap Some (
            c.clear_type.ensures
            ∙ line_put (node_format_tree old) _ _ _ _ _ k (chars c.args.margin.now) leading_is children_is end.2 terminator_is refl
            ∙ ap (λ (t : Text). line_of t k) h
            ),
      ),
      following.1,
    )
