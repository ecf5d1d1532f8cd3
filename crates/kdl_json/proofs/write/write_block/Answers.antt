-- What comes before the nodes of a block.
use Rattle.std.specs.Prelude.{codes}
use Rattle.json.specs.Token.{begin_array, key}
use Rattle.kdl_json.proofs.Appending.{and_token, last_token, nothing}
use Rattle.kdl_json.proofs.write.write_block.Goals as goal

pub returns : goal.returns
returns c =
    let w = c.in_ok-key.ensures in
    last_token c.begin_array.result c.args.out.now c.key.new.self c.begin_array.new.self _ begin_array
    (and_token c.args.out.now c.args.out.now c.key.new.self (λ ts. ts) (key (codes "children")) (nothing c.args.out.now) w.room.0 w.ok) c.begin_array.ensures
