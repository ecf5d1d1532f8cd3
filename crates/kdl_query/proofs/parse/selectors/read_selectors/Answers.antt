use Rattle.std.proofs.Common.{sym, ◌∙◌}
use Rattle.kdl_text.proofs.Looking.MovesJoin.{moves_then, moves_stayed, moves_two, stayed_looked}
use Rattle.kdl_query.proofs.Selecting.{bom_moves, end_there, more_there, no_query_on, queries_on, queries_start, query_ends}
use Rattle.kdl_query.proofs.parse.selectors.read_selectors.Goals as goal

pub selectors-init : goal.selectors-init
selectors-init c = record {
  queries = queries_start c.eat.result c.args.cursor.now c.eat.new.self c.new-selectors.result.items c.eat.ensures c.new-selectors.ensures.items;
  moves = bom_moves c.eat.result c.args.cursor.now c.eat.new.self c.eat.ensures;
}

pub returns-in_err-read_selector-clause-moves : goal.returns-in_err-read_selector-clause-moves
returns-in_err-read_selector-clause-moves c = moves_then c.selectors.invariant.moves c.read_selector.ensures.moves

pub returns-in_err-push-clause-moves : goal.returns-in_err-push-clause-moves
returns-in_err-push-clause-moves c = moves_then c.selectors.invariant.moves c.read_selector.ensures.moves

pub selectors-preserved : goal.selectors-preserved
selectors-preserved c = record {
  queries = queries_on _ _ _ _ c.selectors.selectors.items c.push.new.self.items c.in_ok-read_selector.field-0 c.selectors.invariant.queries c.in_ok-read_selector.ensures.reads.0 c.in_ok-read_selector.ensures.reads.1 c.if-eat_two.ensures.rest c.in_ok-push.ensures.items;
  moves = moves_then c.selectors.invariant.moves (moves_then c.read_selector.ensures.moves (moves_two c.if-eat_two.ensures));
}

pub returns-then-is_some-clause-reads : goal.returns-then-is_some-clause-reads
returns-then-is_some-clause-reads c = λ q. no_query_on _ _ _ _ _ q c.selectors.invariant.queries c.in_ok-read_selector.ensures.reads.0 c.in_ok-read_selector.ensures.reads.1 c.if-eat_two.ensures.0
    (more_there _ _ _ c.if-eat_two.ensures.1.rest c.look.ensures.result (sym c.is_some.ensures ∙ c.if-is_some.true))

pub returns-then-is_some-clause-moves : goal.returns-then-is_some-clause-moves
returns-then-is_some-clause-moves c = moves_then c.selectors.invariant.moves (moves_then c.read_selector.ensures.moves (moves_then (moves_stayed c.if-eat_two.ensures.1) (moves_stayed (stayed_looked _ _ c.look.ensures.moved))))

pub returns-in-selectors-clause-reads : goal.returns-in-selectors-clause-reads
returns-in-selectors-clause-reads c = query_ends _ _ _ c.selectors.selectors.items c.push.new.self.items c.in_ok-read_selector.field-0 c.selectors.invariant.queries c.in_ok-read_selector.ensures.reads.0 c.in_ok-read_selector.ensures.reads.1
    (end_there _ _ _ c.if-eat_two.ensures.1.rest c.look.ensures.result (sym c.is_some.ensures ∙ c.if-is_some.false)) c.in_ok-push.ensures.items

pub returns-in-selectors-clause-moves : goal.returns-in-selectors-clause-moves
returns-in-selectors-clause-moves c = moves_then c.selectors.invariant.moves (moves_then c.read_selector.ensures.moves (moves_then (moves_stayed c.if-eat_two.ensures.1) (moves_stayed (stayed_looked _ _ c.look.ensures.moved))))
