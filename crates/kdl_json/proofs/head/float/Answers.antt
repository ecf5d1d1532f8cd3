-- A float in an object.
use Rattle.std.proofs.Common.{◌∷◌, ℕ, List, ap, refl, sym, subst, ◌∙◌}
use Rattle.std.specs.Prelude.{codes}
use Rattle.json.specs.Token.{Token, begin_object, key, string}
use Rattle.kdl_json.specs.Reading.{left}
use Rattle.kdl_json.specs.Values.{IsFloatOf}
use Rattle.kdl_json.proofs.Memory.{is_memory}
use Rattle.kdl_json.proofs.Tokens.{after_first, same_string}
use Rattle.kdl_json.proofs.Values.{value_boxed}
use Rattle.kdl_json.proofs.head.float.Goals as goal

pub returns-then-not-take_key-clause-reads : goal.returns-then-not-take_key-clause-reads
returns-then-not-take_key-clause-reads c = λ x rest w e.
    let b = value_boxed x (left c.args.source.now) rest e in
    absurd (c.if-not-take_key.ensures.1 _ b.rest)

pub returns-in_err-text-clause-reads : goal.returns-in_err-text-clause-reads
returns-in_err-text-clause-reads c = λ x rest w e.
    let b = value_boxed x (left c.args.source.now) rest e in
    absurd (c.in_err-text.ensures.1 _ _ (after_first c.if-not-take_key.ensures b.rest))

pub returns-in_err-value-clause-reads : goal.returns-in_err-value-clause-reads
returns-in_err-value-clause-reads c = λ x rest w e.
    let b = value_boxed x (left c.args.source.now) rest e in
    let s = same_string c.in_ok-text.ensures (after_first c.if-not-take_key.ensures b.rest) in
    let k = c.in_err-value.ensures.found x w (subst (λ (u : List ℕ). IsFloatOf u x) (sym s.0) b.of) in
    rw (is_memory c.from_residual-in_err-value.result c.in_err-value.field-0.0 k c.from_residual-in_err-value.ensures.1) refl

pub returns-in_err-end_object-clause-reads : goal.returns-in_err-end_object-clause-reads
returns-in_err-end_object-clause-reads c = λ x rest w e.
    let b = value_boxed x (left c.args.source.now) rest e in
    let s = same_string c.in_ok-text.ensures (after_first c.if-not-take_key.ensures b.rest) in
    absurd (c.in_err-end_object.ensures.1 rest s.1)

pub returns-clause-sound : goal.returns-clause-sound
returns-clause-sound c =
    ap (λ (ts : List Token). begin_object ∷ ts) (c.if-not-take_key.ensures ∙ ap (λ (ts : List Token). key (codes "float") ∷ ts)
    (c.in_ok-text.ensures ∙ ap (λ (ts : List Token). string c.in_ok-text.text.now ∷ ts) c.in_ok-end_object.ensures))
    ∙ c.in_ok-value.ensures.written (left c.end_object.new.self)

pub returns-clause-reads : goal.returns-clause-reads
returns-clause-reads c = λ x rest w e.
    let b = value_boxed x (left c.args.source.now) rest e in
    let s = same_string c.in_ok-text.ensures (after_first c.if-not-take_key.ensures b.rest) in
    (c.in_ok-value.ensures.found x w (subst (λ (u : List ℕ). IsFloatOf u x) (sym s.0) b.of), after_first c.in_ok-end_object.ensures s.1)
