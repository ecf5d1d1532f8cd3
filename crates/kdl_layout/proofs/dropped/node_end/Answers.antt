use Rattle.kdl_layout.proofs.Common.{sym, ap, subst, ◌∙◌, ℕ, chars, Text, Break, kind_view, line_end, ItemEnd, EndsNode, LineEnds}
use Rattle.kdl_layout.specs.Internal.Passed.{Before}
use Rattle.kdl_layout.proofs.Dropping.TokenLoop.{semicolon_end, line_before, break_end}
use Rattle.kdl_layout.proofs.dropped.node_end.Goals as goal

pub returns-in-Semicolon : goal.returns-in-Semicolon
returns-in-Semicolon c =
    let token = c.args.token.now in
    let d = subst (λ (n : ℕ). Before (chars c.args.text.now) n token.at.end.rest) (sym c.at-following.ensures) c.requires.at.1 in
    let k = semicolon_end c.cut.result.1 c.requires.token (ap kind_view c.in-Semicolon.is) (c.cut.ensures.parts d.0 token.at.end.rest d.1 d.2).1 in
    (token.at.end.rest, k.0, d, k.1)

pub overflow_sub-result : goal.overflow_sub-result
overflow_sub-result c =
    let token = c.args.token.now in
    (line_before c.args.text.now c.line.result.1.now token.at.start.rest (chars c.cut-2.result.1.now) (chars c.line.result.0.now) (chars c.cut-2.result.0.now) c.at.result c.utf8.text c.line.ensures.text.1
    (subst (λ (n : ℕ). Before (chars c.args.text.now) n token.at.start.rest) (sym c.at.ensures) c.requires.at.0) c.cut-2.ensures.parts c.line.ensures.parts c.line.ensures.end).0

pub line_ending-requires : goal.line_ending-requires
line_ending-requires c =
    let token = c.args.token.now in
    let d = subst (λ (n : ℕ). Before (chars c.args.text.now) n token.at.start.rest) (sym c.at.ensures) c.requires.at.0 in
    let f = subst (λ (n : ℕ). Before (chars c.args.text.now) n token.at.end.rest) (sym c.at-following.ensures) c.requires.at.1 in (
      token.at.start.rest,
      subst (λ (z : Text). Break token.at.start.rest z) (sym (c.cut.ensures.parts f.0 token.at.end.rest f.1 f.2).1) (break_end token.at.start.rest token.at.end.rest token.kind c.requires.token c.requires.ends c.in_default.not-Semicolon),
      c.line.ensures.end ∙ ap line_end (c.cut-2.ensures.parts d.0 token.at.start.rest d.1 d.2).1,
    )

pub returns : goal.returns
returns c =
    let token = c.args.token.now in
    let d = subst (λ (n : ℕ). Before (chars c.args.text.now) n token.at.start.rest) (sym c.at.ensures) c.requires.at.0 in
    let e = c.line.ensures.end ∙ ap line_end (c.cut-2.ensures.parts d.0 token.at.start.rest d.1 d.2).1 in
    let b = break_end token.at.start.rest token.at.end.rest token.kind c.requires.token c.requires.ends c.in_default.not-Semicolon in
    let l = line_before c.args.text.now c.line.result.1.now token.at.start.rest (chars c.cut-2.result.1.now) (chars c.line.result.0.now) (chars c.cut-2.result.0.now) c.at.result c.utf8.text c.line.ensures.text.1 d c.cut-2.ensures.parts c.line.ensures.parts c.line.ensures.end in
    (line_end token.at.start.rest, ItemEnd.line b, l.1, EndsNode.line b (subst (λ (z : Text). LineEnds z c.line_ending.result) e c.line_ending.ensures))
