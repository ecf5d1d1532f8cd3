-- A node up to its entries.
use Rattle.std.proofs.Common.{◌≡◌, ◌∷◌, List, Result, ap, refl, subst, ◌∙◌}
use Rattle.std.specs.Prelude.{Ok, Err, IfOk, codes}
use Rattle.json.specs.Token.{Token, begin_array, begin_object, end_array, key}
use Rattle.kdl_entry.specs.Data.{Entry}
use Rattle.kdl_grammar.specs.Data.{Node}
use Rattle.kdl.specs.Tree.{node_says}
use Rattle.kdl.specs.declared.node.KdlNode.{KdlNode}
use Rattle.kdl_json.specs.Form.{entries_tokens, name_tokens}
use Rattle.kdl_json.specs.Heads.{HasTaken, IsHead, IsNamed, with_more}
use Rattle.kdl_json.specs.Reading.{Gives, left}
use Rattle.kdl_json.specs.declared.failure.JsonFailure.{JsonFailure}
use Rattle.kdl_json.proofs.Keys.{other_key, type_entries}
use Rattle.kdl_json.proofs.Memory.{is_memory}
use Rattle.kdl_json.proofs.Tokens.{after_first}
use Rattle.kdl_json.proofs.head.head.Goals as goal

-- the tokens of the entries and after them, from the `[` on, and from the key on
abbrev listed : List Entry → List Token → List Token
listed es rest = entries_tokens es (end_array ∷ rest)

abbrev keyed : List Entry → List Token → List Token
keyed es rest = key (codes "entries") ∷ begin_array ∷ listed es rest

pub returns-in_err-begin_object-clause-reads : goal.returns-in_err-begin_object-clause-reads
returns-in_err-begin_object-clause-reads c = λ ty name es rest w e. absurd (c.in_err-begin_object.ensures.1 _ e)

pub returns-in_err-node-clause-reads : goal.returns-in_err-node-clause-reads
returns-in_err-node-clause-reads c = λ ty name es rest w e.
    let k = c.in_err-node.ensures.reads ty name (keyed es rest) (other_key (codes "entries") (codes "type") _ type_entries) (after_first c.in_ok-begin_object.ensures e) in
    rw (is_memory c.from_residual-in_err-node.result c.in_err-node.field-0.0 k c.from_residual-in_err-node.ensures.1) refl

pub returns-then-not-take_key-clause-reads : goal.returns-then-not-take_key-clause-reads
returns-then-not-take_key-clause-reads c = λ ty name es rest w e.
    let n = c.in_ok-node.ensures.reads ty name (keyed es rest) (other_key (codes "entries") (codes "type") _ type_entries) (after_first c.in_ok-begin_object.ensures e) in
    absurd (c.if-not-take_key.ensures.1 _ n.1)

pub returns-in_err-begin_array-clause-reads : goal.returns-in_err-begin_array-clause-reads
returns-in_err-begin_array-clause-reads c = λ ty name es rest w e.
    let n = c.in_ok-node.ensures.reads ty name (keyed es rest) (other_key (codes "entries") (codes "type") _ type_entries) (after_first c.in_ok-begin_object.ensures e) in
    absurd (c.in_err-begin_array.ensures.1 _ (after_first c.if-not-take_key.ensures n.1))

-- a named node with the entries that were taken
head_taken : (n m : Node) (old o a b d new : List Token) → old ≡ begin_object ∷ o → IsNamed n o a → a ≡ key (codes "entries") ∷ b → b ≡ begin_array ∷ d → HasTaken n m d (end_array ∷ new) → IsHead m old new
head_taken n m old o a b d new s h k l t = record {
  ty = h.ty;
  name = h.name;
  entries = t.entries;
  is = t.is ∙ ap (λ (x : Node). with_more x t.entries) h.is;
  tokens = s ∙ ap (λ (ts : List Token). begin_object ∷ ts) (h.tokens ∙ ap (name_tokens h.ty h.name) (k ∙ ap (λ (ts : List Token). key (codes "entries") ∷ ts) (l ∙ ap (λ (ts : List Token). begin_array ∷ ts) t.tokens)));
}

head_sound : (r : Result KdlNode JsonFailure) (n : Node) (old o a b d new : List Token) → old ≡ begin_object ∷ o → IsNamed n o a → a ≡ key (codes "entries") ∷ b → b ≡ begin_array ∷ d
    → IfOk r (λ m. HasTaken n (node_says m) d (end_array ∷ new)) → IfOk r (λ m. IsHead (node_says m) old new)
head_sound (Ok m) n old o a b d new s h k l t = head_taken n (node_says m) old o a b d new s h k l t
head_sound (Err e) n old o a b d new s h k l t = tt

pub returns-clause-sound : goal.returns-clause-sound
returns-clause-sound c = head_sound c.entries.result (node_says c.in_ok-node.node) (left c.args.source.now) (left c.begin_object.new.self) (left c.named.new.source) (left c.take_key.new.self) (left c.begin_array.new.self) (left c.entries.new.source)
    c.in_ok-begin_object.ensures c.in_ok-node.ensures.sound c.if-not-take_key.ensures c.in_ok-begin_array.ensures c.entries.ensures.sound

pub returns-clause-reads : goal.returns-clause-reads
returns-clause-reads c = λ ty name es rest w e.
    let n = c.in_ok-node.ensures.reads ty name (keyed es rest) (other_key (codes "entries") (codes "type") _ type_entries) (after_first c.in_ok-begin_object.ensures e) in
    let a = after_first c.in_ok-begin_array.ensures (after_first c.if-not-take_key.ensures n.1) in
    subst (λ (x : Node). Gives node_says c.entries.result (left c.entries.new.source) x rest) (ap (λ (x : Node). with_more x es) n.0) (c.entries.ensures.reads es rest w a)
