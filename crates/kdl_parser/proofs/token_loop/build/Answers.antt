use Rattle.kdl_syntax.specs.Internal.Handed.{kind_view}
use Rattle.kdl_syntax.specs.Tokens.{space, newline, string}
use Rattle.kdl_parser.proofs.Answering.Turns.{end_placed, reading_starts, turn}
use Rattle.kdl_parser.proofs.Stepping.TurnCost.{nearer}
use Rattle.kdl_parser.proofs.token_loop.build.Goals as goal

pub tokens-init : goal.tokens-init
tokens-init g c = reading_starts g.N.ParsedNode.tree c.args.builder.now c.requires.state c.requires.unsliced c.requires.text

pub tokens-preserved-in-Continue-branch-3 : goal.tokens-preserved-in-Continue-branch-3
tokens-preserved-in-Continue-branch-3 g c =
    turn g.N.ParsedNode.tree _ c.next_token.new.cursor c.tokens.builder c.tokens.invariant c.next_token.ensures.moves c.take_space.new.self space c.in-Space.at
    (rw c.in-Space.is at c.in_ok-at.ensures.lexed) (rw c.in-Space.is at c.in_ok-at.ensures.costs) c.in_ok-take_space-in-Space.ensures

pub tokens-smaller-in-Continue-branch-3 : goal.tokens-smaller-in-Continue-branch-3
tokens-smaller-in-Continue-branch-3 g c = rw c.in_ok-take_space-in-Space.ensures.same.rest (nearer c.tokens.builder.cursor c.next_token.new.cursor space c.in-Space.at ((rw c.in-Space.is at c.in_ok-at.ensures.lexed)))

pub tokens-preserved-in-Continue-branch-4 : goal.tokens-preserved-in-Continue-branch-4
tokens-preserved-in-Continue-branch-4 g c =
    turn g.N.ParsedNode.tree _ c.next_token.new.cursor c.tokens.builder c.tokens.invariant c.next_token.ensures.moves c.take.new.self newline c.in-Newline.at
    (rw c.in-Newline.is at c.in_ok-at.ensures.lexed) (rw c.in-Newline.is at c.in_ok-at.ensures.costs) c.in_ok-take-in-Newline.ensures

pub tokens-smaller-in-Continue-branch-4 : goal.tokens-smaller-in-Continue-branch-4
tokens-smaller-in-Continue-branch-4 g c = rw c.in_ok-take-in-Newline.ensures.same.rest (nearer c.tokens.builder.cursor c.next_token.new.cursor newline c.in-Newline.at ((rw c.in-Newline.is at c.in_ok-at.ensures.lexed)))

pub tokens-preserved-in-Continue-branch-5 : goal.tokens-preserved-in-Continue-branch-5
tokens-preserved-in-Continue-branch-5 g c =
    turn g.N.ParsedNode.tree _ c.next_token.new.cursor c.tokens.builder c.tokens.invariant c.next_token.ensures.moves c.take_word.new.self (string c.in-Word.word) c.in-Word.at
    (rw c.in-Word.is at c.in_ok-at.ensures.lexed).0 (rw c.in-Word.is at c.in_ok-at.ensures.costs) c.in_ok-take_word-in-Word.ensures

pub tokens-smaller-in-Continue-branch-5 : goal.tokens-smaller-in-Continue-branch-5
tokens-smaller-in-Continue-branch-5 g c = rw c.in_ok-take_word-in-Word.ensures.same.rest (nearer c.tokens.builder.cursor c.next_token.new.cursor (string c.in-Word.word) c.in-Word.at ((rw c.in-Word.is at c.in_ok-at.ensures.lexed).0))

pub tokens-preserved : goal.tokens-preserved
tokens-preserved g c =
    turn g.N.ParsedNode.tree _ c.next_token.new.cursor c.tokens.builder c.tokens.invariant c.next_token.ensures.moves c.take-in-Other.new.self (kind_view c.in-Other.token.kind) c.in-Other.token.at
    (rw c.in-Other.is at c.in_ok-at.ensures.lexed) (rw c.in-Other.is at c.in_ok-at.ensures.costs) c.in_ok-take-in-Other.ensures

pub tokens-smaller : goal.tokens-smaller
tokens-smaller g c = rw c.in_ok-take-in-Other.ensures.same.rest (nearer c.tokens.builder.cursor c.next_token.new.cursor (kind_view c.in-Other.token.kind) c.in-Other.token.at ((rw c.in-Other.is at c.in_ok-at.ensures.lexed)))

pub finish-requires-clause-from : goal.finish-requires-clause-from
finish-requires-clause-from g c = end_placed g.N.ParsedNode.tree _ c.next_token.new.cursor c.tokens.builder c.tokens.invariant c.next_token.ensures.moves c.checkpoint-end.result (rw c.in-End.is at c.in_ok-at.ensures.lexed) c.checkpoint-end.ensures.rest
