-- A read over open blocks.
use Rattle.std.proofs.Common.{◌≡◌, ◌∷◌, [], List, arith, rules, ap, refl, sym, subst, ◌∙◌, length}
use Rattle.json.specs.Token.{Token, begin_array, end_array, end_object}
use Rattle.kdl.specs.Said.{said_nodes}
use Rattle.kdl.specs.Tree.{document_says, node_says}
use Rattle.kdl_json.specs.Form.{nodes_tokens}
use Rattle.kdl_json.specs.Reading.{left}
use Rattle.kdl_json.specs.declared.read.Open.{Open}
use Rattle.kdl_json.proofs.Blocks.{Frame, Going, ends, innermost, innermost_block, meets, opened, same_said}
use Rattle.kdl_json.proofs.Frames.{frame, frames, frames_none, frames_push, reached_in, reached_none, reached_on, reached_out}
use Rattle.kdl_json.proofs.Longer.{first_taken, head_taken}
use Rattle.kdl_json.proofs.Memory.{is_memory}
use Rattle.kdl_json.proofs.OpenNodes.{plain_in, plain_none, plain_out}
use Rattle.kdl_json.proofs.Steps.{block_begins, node_ends, object_ends, past}
use Rattle.kdl_json.proofs.read.nodes.Goals as goal

pub tokens-init : goal.tokens-init
tokens-init c = record {
  reached = reached_none c.new-open.result.items (document_says c.empty-nodes.result) (left c.args.source.now) c.new-open.ensures.items c.empty-nodes.ensures.data;
  plain = plain_none c.new-open.result.items c.empty-nodes.result c.new-open.ensures.items c.empty-nodes.ensures.plain;
}

pub returns-in_err-end-clause-reads : goal.returns-in_err-end-clause-reads
returns-in_err-end-clause-reads c = λ x fit e.
    let l = c.tokens in
    let acc = said_nodes (document_says l.nodes) in
    let now = left l.source in
    let gone : length l.open.items ≡ 0 = search rules in
    let h = subst (λ (fs : List Frame). Going fs acc now x []) (frames_none l.open.items gone) (l.invariant.reached.reads x fit e) in
    absurd (c.in_err-end.ensures.1 (ends acc now (left c.take_end_array.new.self) x [] c.if-take_end_array.ensures h).left)

pub returns-in_default-clause-sound : goal.returns-in_default-clause-sound
returns-in_default-clause-sound c =
    let l = c.tokens in
    let d = document_says l.nodes in
    let gone : length l.open.items ≡ 0 = search rules in
    l.invariant.reached.sound ∙ ap (λ (fs : List Frame). opened fs (nodes_tokens d (left l.source))) (frames_none l.open.items gone)
    ∙ ap (nodes_tokens d) (c.if-take_end_array.ensures ∙ ap (λ (ts : List Token). end_array ∷ ts) c.in_ok-end.ensures)

pub returns-in_default-clause-reads : goal.returns-in_default-clause-reads
returns-in_default-clause-reads c = λ x fit e.
    let l = c.tokens in
    let d = document_says l.nodes in
    let now = left l.source in
    let gone : length l.open.items ≡ 0 = search rules in
    let h = subst (λ (fs : List Frame). Going fs (said_nodes d) now x []) (frames_none l.open.items gone) (l.invariant.reached.reads x fit e) in
    sym (same_said x d (ends (said_nodes d) now (left c.take_end_array.new.self) x [] c.if-take_end_array.ensures h).all)

pub returns-in_err-end_object-clause-reads : goal.returns-in_err-end_object-clause-reads
returns-in_err-end_object-clause-reads c = λ x fit e.
    let l = c.tokens in
    let acc = said_nodes (document_says l.nodes) in
    let now = left l.source in
    let os = c.pop.new.self.items in
    let f = frame c.in-Some.field-0 in
    let h = subst (λ (fs : List Frame). Going fs acc now x []) (frames_push os l.open.items c.in-Some.field-0 c.in-Some.ensures.items) (l.invariant.reached.reads x fit e) in
    let i = innermost (frames os) (f ∷ []) acc now x [] h in
    absurd (object_ends f acc now (left c.take_end_array.new.self) c.if-take_end_array.ensures c.in_err-end_object.ensures.1 i.nodes i.rest i.is)

pub returns-in_err-nodes-clause-reads : goal.returns-in_err-nodes-clause-reads
returns-in_err-nodes-clause-reads c = λ x fit e.
    rw (is_memory c.from_residual-in_err-nodes.result c.in_err-nodes.field-0.0 c.in_err-nodes.ensures.data c.from_residual-in_err-nodes.ensures.1) refl

pub returns-in_err-node-clause-reads : goal.returns-in_err-node-clause-reads
returns-in_err-node-clause-reads c = λ x fit e.
    let l = c.tokens in
    let acc = said_nodes (document_says l.nodes) in
    let i = innermost_block (frames l.open.items) acc (left l.source) x [] (l.invariant.reached.reads x fit e) in
    let m = meets acc (left l.source) i.nodes i.rest c.if-take_end_array.ensures.1 i.is in
    let k = c.in_err-node.ensures.reads m.ty m.name m.entries _ m.entries_fit (c.if-take_end_array.ensures.0 ∙ m.tokens) in
    rw (is_memory c.from_residual-in_err-node.result c.in_err-node.field-0.0 k c.from_residual-in_err-node.ensures.1) refl

pub returns-in_err-begin_array-clause-reads : goal.returns-in_err-begin_array-clause-reads
returns-in_err-begin_array-clause-reads c = λ x fit e.
    let l = c.tokens in
    let acc = said_nodes (document_says l.nodes) in
    let n = node_says c.in_ok-node.node in
    let mid = left c.head.new.source in
    let i = innermost_block (frames l.open.items) acc (left l.source) x [] (l.invariant.reached.reads x fit e) in
    let p = past acc n (left l.source) mid c.if-take_end_array.ensures.1 (λ ty name es rest w t. c.in_ok-node.ensures.reads ty name es rest w (c.if-take_end_array.ensures.0 ∙ t)) i.nodes i.rest i.is in
    absurd (block_begins acc n mid (left c.take_key.new.self) c.if-take_key.ensures c.in_err-begin_array.ensures.1 i.nodes i.rest p)

pub returns-in_err-end_object-2-clause-reads : goal.returns-in_err-end_object-2-clause-reads
returns-in_err-end_object-2-clause-reads c = λ x fit e.
    let l = c.tokens in
    let acc = said_nodes (document_says l.nodes) in
    let n = node_says c.in_ok-node.node in
    let mid = left c.head.new.source in
    let i = innermost_block (frames l.open.items) acc (left l.source) x [] (l.invariant.reached.reads x fit e) in
    let p = past acc n (left l.source) mid c.if-take_end_array.ensures.1 (λ ty name es rest w t. c.in_ok-node.ensures.reads ty name es rest w (c.if-take_end_array.ensures.0 ∙ t)) i.nodes i.rest i.is in
    absurd (node_ends acc n mid c.if-take_key.ensures.1 (λ ts t. c.in_err-end_object-2.ensures.1 ts (c.if-take_key.ensures.0 ∙ t)) i.nodes i.rest p)

pub returns-in_err-nodes-2-clause-reads : goal.returns-in_err-nodes-2-clause-reads
returns-in_err-nodes-2-clause-reads c = λ x fit e.
    rw (is_memory c.from_residual-in_err-nodes-2.result c.in_err-nodes-2.field-0.0 c.in_err-nodes-2.ensures.data c.from_residual-in_err-nodes-2.ensures.1) refl

-- out of a block
pub tokens-smaller-then-take_end_array : goal.tokens-smaller-then-take_end_array
tokens-smaller-then-take_end_array c =
    let on = left c.take_end_array.new.self in
    omega (arith, first_taken end_array (left c.tokens.source) on c.if-take_end_array.ensures, first_taken end_object on (left c.end_object.new.self) c.in_ok-end_object.ensures)

pub tokens-preserved-then-take_end_array : goal.tokens-preserved-then-take_end_array
tokens-preserved-then-take_end_array c =
    let l = c.tokens in
    let os = c.pop.new.self.items in
    record {
      reached = reached_out (left c.args.source.now) os l.open.items c.in-Some.field-0 (document_says l.nodes) (document_says c.in_ok-nodes.nodes) (node_says c.enclosed.result)
          (left l.source) (left c.take_end_array.new.self) (left c.end_object.new.self) c.in-Some.ensures.items c.if-take_end_array.ensures c.in_ok-end_object.ensures c.enclosed.ensures.data c.in_ok-nodes.ensures.data l.invariant.reached;
      plain = plain_out os l.open.items c.in-Some.field-0 l.nodes c.in_ok-nodes.nodes c.in-Some.ensures.items (λ b n d. c.in_ok-nodes.ensures.plain b (c.enclosed.ensures.plain n d)) l.invariant.plain;
    }

-- into the block of a node
pub tokens-smaller-then-take_key : goal.tokens-smaller-then-take_key
tokens-smaller-then-take_key c =
    let mid = left c.head.new.source in
    let k = left c.take_key.new.self in
    omega (
      arith,
      ap length c.if-take_end_array.ensures.0,
      head_taken (node_says c.in_ok-node.node) (left c.take_end_array.new.self) mid c.in_ok-node.ensures.sound,
      first_taken _ mid k c.if-take_key.ensures,
      first_taken begin_array k (left c.begin_array.new.self) c.in_ok-begin_array.ensures,
    )

pub tokens-preserved-then-take_key : goal.tokens-preserved-then-take_key
tokens-preserved-then-take_key c =
    let l = c.tokens in
    let o : Open = record { before = l.nodes; node = c.in_ok-node.node } in
    let ps = c.push.new.self.items in
    let e = c.empty-nodes-then-take_key in
    record {
      reached = reached_in (left c.args.source.now) l.open.items ps o (document_says e.result) (left l.source) (left c.take_end_array.new.self) (left c.head.new.source) (left c.take_key.new.self) (left c.begin_array.new.self)
          c.in_ok-push.ensures.items e.ensures.data c.if-take_end_array.ensures.0 c.if-take_end_array.ensures.1 c.in_ok-node.ensures.sound c.in_ok-node.ensures.reads c.if-take_key.ensures c.in_ok-begin_array.ensures l.invariant.reached;
      plain = plain_in l.open.items ps o e.result c.in_ok-push.ensures.items e.ensures.plain c.in_ok-node.ensures.plain l.invariant.plain;
    }

-- past a node without a block
pub tokens-smaller : goal.tokens-smaller
tokens-smaller c =
    let mid = left c.head.new.source in
    let same = left c.take_key.new.self in
    omega (
      arith,
      ap length c.if-take_end_array.ensures.0,
      head_taken (node_says c.in_ok-node.node) (left c.take_end_array.new.self) mid c.in_ok-node.ensures.sound,
      ap length c.if-take_key.ensures.0,
      first_taken end_object same (left c.end_object-else-take_key.new.self) c.in_ok-end_object-2.ensures,
    )

pub tokens-preserved : goal.tokens-preserved
tokens-preserved c =
    let l = c.tokens in
    record {
      reached = reached_on (left c.args.source.now) l.open.items (document_says l.nodes) (document_says c.in_ok-nodes-2.nodes) (node_says c.in_ok-node.node)
          (left l.source) (left c.take_end_array.new.self) (left c.head.new.source) (left c.take_key.new.self) (left c.end_object-else-take_key.new.self)
          c.if-take_end_array.ensures.0 c.if-take_end_array.ensures.1 c.in_ok-node.ensures.sound c.in_ok-node.ensures.reads c.if-take_key.ensures.0 c.if-take_key.ensures.1 c.in_ok-end_object-2.ensures c.in_ok-nodes-2.ensures.data l.invariant.reached;
      plain = (c.in_ok-nodes-2.ensures.plain l.invariant.plain.0 c.in_ok-node.ensures.plain, l.invariant.plain.1);
    }

pub returns-in_default-clause-plain : goal.returns-in_default-clause-plain
returns-in_default-clause-plain c = c.tokens.invariant.plain.0
