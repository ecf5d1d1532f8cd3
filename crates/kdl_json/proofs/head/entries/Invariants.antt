use Rattle.std.proofs.Common.{◌≡◌, ◌∷◌, List, length}
use Rattle.json.specs.Token.{Token, end_array}
use Rattle.kdl_entry.specs.Data.{Entry}
use Rattle.kdl_layout.specs.WellFormed.{AreWellFormedEntries}
use Rattle.kdl.specs.Layout.{NodeKeepsNoForm}
use Rattle.kdl.specs.Tree.{node_says}
use Rattle.kdl_json.specs.Form.{entries_tokens}
use Rattle.kdl_json.specs.Heads.{HasTaken}
use Rattle.kdl_json.specs.Reading.{left}
use Rattle.kdl_json.proofs.Entries.{Remain}
use Rattle.kdl_json.proofs.head.entries.Given as goal

-- the entries so far were taken, and the tokens are of the others
abbrev pub invariant-tokens : goal.invariant-tokens
invariant-tokens l = record {
  sound : HasTaken (node_says l.fn.node) (node_says l.node) (left l.fn.source) (left l.source);
  reads : (es : List Entry) (rest : List Token) → AreWellFormedEntries es → left l.fn.source ≡ entries_tokens es (end_array ∷ rest)
      → Remain (node_says l.fn.node) (node_says l.node) es (left l.source) rest;
  plain : NodeKeepsNoForm l.fn.node → NodeKeepsNoForm l.node;
}

-- the tokens that are left
abbrev pub decreases-tokens : goal.decreases-tokens
decreases-tokens l = length (left l.source)
