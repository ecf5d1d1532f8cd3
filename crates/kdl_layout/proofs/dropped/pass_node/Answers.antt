use Rattle.kdl_layout.proofs.Common.{[], sym, ap, subst, ◌∙◌, ℕ, chars, Here, kind_view, for_node, control_view, at, NodeSlashdash}
use Rattle.kdl_layout.proofs.Dropping.Paths.{node_on}
use Rattle.kdl_layout.proofs.Dropping.TokenLoop.{Goes, node_starts, refused_on, goes_further, node_stops, faulty, refused_here, node_returns, token_places, token_ends, cut_shorter}
use Rattle.kdl_layout.proofs.dropped.pass_node.Goals as goal

pub tokens-init : goal.tokens-init
tokens-init c =
    node_starts (chars c.args.text.now) c.new-cursor.result (control_view c.new-control.result) (ap (λ (h : Here). h.rest) c.new-cursor.ensures) (ap (λ (h : Here). h.at) c.new-cursor.ensures) c.new-control.ensures

pub returns-in-Ok-None : goal.returns-in-Ok-None
returns-in-Ok-None c =
    rw (c.then_some.ensures, c.may_end.ensures) (node_stops (chars c.args.text.now) c.tokens.cursor (control_view c.tokens.control) c.tokens.last c.tokens.invariant (rw c.in-Ok-None.field-0-is at c.in-Ok-None.ensures.lexed))

pub returns-in-Err-Faulty : goal.returns-in-Err-Faulty
returns-in-Err-Faulty c = faulty c.tokens.invariant (rw c.in-Err-Faulty.field-0-is at c.in-Err-Faulty.ensures.lexed)

pub returns-then-not-branch : goal.returns-then-not-branch
returns-then-not-branch c =
    let f = rw c.if-not-branch.true at c.in_ok-take.ensures in
    refused_here c.tokens.invariant c.in-Ok-Some.token (rw c.in-Ok-Some.field-0-is at c.in-Ok-Some.ensures.lexed) f (refused_on (control_view c.tokens.control) (kind_view c.in-Ok-Some.token.kind) f)

pub node_end-item-requires-clause-at : goal.node_end-item-requires-clause-at
node_end-item-requires-clause-at c = token_places c.tokens.invariant c.in-Ok-Some.token (rw c.in-Ok-Some.field-0-is at c.in-Ok-Some.ensures.lexed) c.next.ensures.moves

pub node_end-item-requires-clause-ends : goal.node_end-item-requires-clause-ends
node_end-item-requires-clause-ends c = token_ends c.tokens.invariant (rw c.if-not-branch.false at c.in_ok-take.ensures) (sym c.is_between_nodes.ensures ∙ c.if-is_between_nodes.true)

pub returns-then-is_between_nodes : goal.returns-then-is_between_nodes
returns-then-is_between_nodes c =
    let h = rw c.in-Ok-Some.field-0-is at c.in-Ok-Some.ensures.lexed in
    let f = rw c.if-not-branch.false at c.in_ok-take.ensures in
    node_returns (chars c.args.text.now) c.tokens.cursor c.next.new.cursor (control_view c.tokens.control) (control_view c.take.new.self) c.in-Ok-Some.token c.tokens.last c.node_end-item.result.0 c.node_end-item.result.1 c.tokens.invariant h c.next.ensures.moves f
    (sym c.is_between_nodes.ensures ∙ c.if-is_between_nodes.true) c.node_end-item.ensures

pub tokens-smaller : goal.tokens-smaller
tokens-smaller c =
    let h = rw c.in-Ok-Some.field-0-is at c.in-Ok-Some.ensures.lexed in
    cut_shorter h.cuts

pub tokens-preserved : goal.tokens-preserved
tokens-preserved c =
    let h = rw c.in-Ok-Some.field-0-is at c.in-Ok-Some.ensures.lexed in
    let f = rw c.if-not-branch.false at c.in_ok-take.ensures in
    let x = sym c.is_between_nodes.ensures ∙ c.if-is_between_nodes.false in
    subst (λ (n : ℕ). Goes for_node (at NodeSlashdash []) c.next.new.cursor (control_view c.take.new.self) (chars c.args.text.now) n) (sym c.end_after-last.ensures) (goes_further c.tokens.invariant c.in-Ok-Some.token h c.next.ensures.moves f (node_on (control_view c.tokens.control) (kind_view c.in-Ok-Some.token.kind) f x) x)
