use Rattle.std.proofs.Common.{rules, ◌≡◌, []}
use Rattle.kdl_path.proofs.Cursors.{none_apart}
use Rattle.kdl_path.proofs.cursor.block.Block.new.Goals as goal

pub returns : goal.returns
returns c = let none : c.new.result.items ≡ [] = search rules in record { whole = none_apart (record { document = c.args.document; after = c.new.result }) none }
