-- A key and a string, if there is one.
use Rattle.std.proofs.Common.{◌∷◌, List, Some, ap, refl, sym, ◌∙◌}
use Rattle.json.specs.Token.{Token, key}
use Rattle.kdl_json.specs.Reading.{left}
use Rattle.kdl_json.proofs.Memory.{is_memory}
use Rattle.kdl_json.proofs.Tokens.{has, lacks}
use Rattle.kdl_json.proofs.head.member.Goals as goal

pub returns-then-not-take_key-clause-sound : goal.returns-then-not-take_key-clause-sound
returns-then-not-take_key-clause-sound c = sym c.if-not-take_key.ensures.0

pub returns-then-not-take_key-clause-reads : goal.returns-then-not-take_key-clause-reads
returns-then-not-take_key-clause-reads c = λ o rest n e.
    let l = lacks c.args.key.now o (left c.args.source.now) rest c.if-not-take_key.ensures.1 e in
    (l.0, c.if-not-take_key.ensures.0 ∙ l.1)

pub returns-in_err-identifier-clause-reads : goal.returns-in_err-identifier-clause-reads
returns-in_err-identifier-clause-reads c = λ o rest n e.
    let h = has c.args.key.now o (left c.args.source.now) (left c.take_key.new.self) rest n c.if-not-take_key.ensures e in
    let k = c.in_err-identifier.ensures.reads h.text rest h.tokens in
    rw (is_memory c.from_residual.result c.in_err-identifier.field-0.0 k c.from_residual.ensures.1) refl

pub returns-clause-sound : goal.returns-clause-sound
returns-clause-sound c = c.if-not-take_key.ensures ∙ ap (λ (ts : List Token). key c.args.key.now ∷ ts) c.in_ok-identifier.ensures.sound

pub returns-clause-reads : goal.returns-clause-reads
returns-clause-reads c = λ o rest n e.
    let h = has c.args.key.now o (left c.args.source.now) (left c.take_key.new.self) rest n c.if-not-take_key.ensures e in
    let i = c.in_ok-identifier.ensures.reads h.text rest h.tokens in
    (ap Some i.0 ∙ sym h.is, i.1)
