-- Entries up to the end of their list.
use Rattle.std.proofs.Common.{◌∷◌, List, ap, arith, length, refl, sym, subst, ◌∙◌}
use Rattle.json.specs.Token.{Token, end_array}
use Rattle.kdl_entry.specs.Tree.{entry_data, entry_tree}
use Rattle.kdl.specs.Tree.{node_says}
use Rattle.kdl_json.specs.Form.{entries_tokens}
use Rattle.kdl_json.specs.Heads.{HasTaken}
use Rattle.kdl_json.specs.Reading.{left}
use Rattle.kdl_json.proofs.Entries.{remain_all, remain_end, remain_next, remain_on, taken_more, taken_none}
use Rattle.kdl_json.proofs.Longer.{entry_longer}
use Rattle.kdl_json.proofs.Memory.{is_memory}
use Rattle.kdl_json.proofs.head.entries.Goals as goal

pub tokens-init : goal.tokens-init
tokens-init c = record {
  sound = taken_none (node_says c.args.node) (left c.args.source.now);
  reads = λ es rest fit e. remain_all (node_says c.args.node) es (left c.args.source.now) rest fit e;
  plain = λ p. p;
}

pub returns-clause-sound : goal.returns-clause-sound
returns-clause-sound c =
    let l = c.tokens in
    subst (λ (ts : List Token). HasTaken (node_says c.args.node) (node_says l.node) (left c.args.source.now) ts) c.tokens-test.ensures l.invariant.sound

pub returns-clause-reads : goal.returns-clause-reads
returns-clause-reads c = λ es rest fit e.
    let l = c.tokens in
    let h = remain_end (node_says c.args.node) (node_says l.node) es (left l.source) (left c.take_end_array.new.self) rest (l.invariant.reads es rest fit e) c.tokens-test.ensures in
    (h.is, h.left)

pub returns-in_err-entry-clause-reads : goal.returns-in_err-entry-clause-reads
returns-in_err-entry-clause-reads c = λ es rest fit e.
    let l = c.tokens in
    let h = remain_next (node_says c.args.node) (node_says l.node) es (left l.source) rest (l.invariant.reads es rest fit e) c.tokens-test.ensures.1 in
    let k = c.in_err-entry.ensures.reads h.entry (entries_tokens h.more (end_array ∷ rest)) h.fit (c.tokens-test.ensures.0 ∙ h.tokens) in
    rw (is_memory c.from_residual.result c.in_err-entry.field-0.0 k c.from_residual.ensures.1) refl

pub returns-in_err-node-clause-reads : goal.returns-in_err-node-clause-reads
returns-in_err-node-clause-reads c = λ es rest fit e.
    rw (is_memory c.from_residual-in_err-node.result c.in_err-node.field-0.0 c.in_err-node.ensures.data c.from_residual-in_err-node.ensures.1) refl

pub tokens-smaller : goal.tokens-smaller
tokens-smaller c =
    let now = left c.tokens.source in
    let on = left c.take_end_array.new.self in
    let new = left c.entry.new.source in
    let x = entry_data (entry_tree c.in_ok-entry.entry) in
    omega (arith, ap length c.tokens-test.ensures.0, ap length c.in_ok-entry.ensures.sound, entry_longer x new)

pub tokens-preserved : goal.tokens-preserved
tokens-preserved c =
    let l = c.tokens in
    let n = node_says c.args.node in
    let m = node_says c.in_ok-node.node in
    let x = entry_data (entry_tree c.in_ok-entry.entry) in
    record {
      sound = taken_more n (node_says l.node) m x (left c.args.source.now) (left l.source) (left c.entry.new.source) l.invariant.sound c.in_ok-node.ensures.data (sym c.tokens-test.ensures.0 ∙ c.in_ok-entry.ensures.sound);
      reads = λ es rest fit e.
          let h = remain_next n (node_says l.node) es (left l.source) rest (l.invariant.reads es rest fit e) c.tokens-test.ensures.1 in
          let k = c.in_ok-entry.ensures.reads h.entry (entries_tokens h.more (end_array ∷ rest)) h.fit (c.tokens-test.ensures.0 ∙ h.tokens) in
          remain_on n (node_says l.node) m x es (left l.source) (left c.entry.new.source) rest h c.in_ok-node.ensures.data k.0 k.1;
      plain = λ p. c.in_ok-node.ensures.plain (l.invariant.plain p) c.in_ok-entry.ensures.plain;
    }

pub returns-clause-plain : goal.returns-clause-plain
returns-clause-plain c = c.tokens.invariant.plain
