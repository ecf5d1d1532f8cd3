use Rattle.kdl_syntax.proofs.OpenBlocks.{no_word, word_here}
use Rattle.kdl_syntax.proofs.control.Control.is_word.Goals as goal

pub returns-then-not-is_empty : goal.returns-then-not-is_empty
returns-then-not-is_empty c = let self = c.args.self.now in no_word self.phase self.frames.items self.frames.len self.frames.ok.0 c.if-not-is_empty.ensures

pub returns-in-InNode : goal.returns-in-InNode
returns-in-InNode c = let self = c.args.self.now in word_here self.phase c.in-InNode.spot self.frames.items self.frames.len c.may_be_key.result c.in-InNode.is self.frames.ok.0 c.if-not-is_empty.ensures c.may_be_key.ensures
