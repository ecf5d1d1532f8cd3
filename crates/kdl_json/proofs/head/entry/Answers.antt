-- An entry, part by part.
use Rattle.std.proofs.Common.{◌≡◌, ◌∷◌, List, Option, ap, ◌∙◌, sym, refl}
use Rattle.std.specs.Prelude.{codes}
use Rattle.json.specs.Token.{Token, begin_object, end_object, key}
use Rattle.kdl_entry.specs.Data.{Entry}
use Rattle.kdl_text.specs.Chars.{Text}
use Rattle.kdl_value.specs.Data.{Value}
use Rattle.kdl_json.specs.Form.{entry_tokens, member_tokens, value_tokens}
use Rattle.kdl_json.specs.Reading.{left}
use Rattle.kdl_json.proofs.Keys.{no_name, other_key, type_value}
use Rattle.kdl_json.proofs.Memory.{is_memory}
use Rattle.kdl_json.proofs.Tokens.{after_first}
use Rattle.kdl_json.proofs.head.entry.Goals as goal

-- the tokens of the value and after it, from the key of the value on, and from the type on
abbrev valued : Entry → List Token → List Token
valued x rest = value_tokens x.value (end_object ∷ rest)

abbrev keyed : Entry → List Token → List Token
keyed x rest = key (codes "value") ∷ valued x rest

abbrev typed : Entry → List Token → List Token
typed x rest = member_tokens (codes "type") x.ty (keyed x rest)

abbrev entry_of : Option Text → Option Text → Value → Entry
entry_of name ty value = record { key = name; ty = ty; value = value }

same_entry : (x : Entry) (name ty : Option Text) (value : Value) → name ≡ x.key → ty ≡ x.ty → value ≡ x.value → entry_of name ty value ≡ x
same_entry x name ty value n t v =
    ap (λ (k : Option Text). entry_of k ty value) n ∙ ap (λ (u : Option Text). entry_of x.key u value) t ∙ ap (entry_of x.key x.ty) v

pub returns-in_err-begin_object-clause-reads : goal.returns-in_err-begin_object-clause-reads
returns-in_err-begin_object-clause-reads c = λ x rest w e. absurd (c.in_err-begin_object.ensures.1 _ e)

pub returns-in_err-name-clause-reads : goal.returns-in_err-name-clause-reads
returns-in_err-name-clause-reads c = λ x rest w e.
    let k = c.in_err-name.ensures.reads x.key (typed x rest) (no_name x.ty (valued x rest)) (after_first c.in_ok-begin_object.ensures e) in
    rw (is_memory c.from_residual-in_err-name.result c.in_err-name.field-0.0 k c.from_residual-in_err-name.ensures.1) refl

pub returns-in_err-ty-clause-reads : goal.returns-in_err-ty-clause-reads
returns-in_err-ty-clause-reads c = λ x rest w e.
    let n = c.in_ok-name.ensures.reads x.key (typed x rest) (no_name x.ty (valued x rest)) (after_first c.in_ok-begin_object.ensures e) in
    let k = c.in_err-ty.ensures.reads x.ty (keyed x rest) (other_key (codes "value") (codes "type") (valued x rest) type_value) n.1 in
    rw (is_memory c.from_residual-in_err-ty.result c.in_err-ty.field-0.0 k c.from_residual-in_err-ty.ensures.1) refl

pub returns-then-not-take_key-clause-reads : goal.returns-then-not-take_key-clause-reads
returns-then-not-take_key-clause-reads c = λ x rest w e.
    let n = c.in_ok-name.ensures.reads x.key (typed x rest) (no_name x.ty (valued x rest)) (after_first c.in_ok-begin_object.ensures e) in
    let t = c.in_ok-ty.ensures.reads x.ty (keyed x rest) (other_key (codes "value") (codes "type") (valued x rest) type_value) n.1 in
    absurd (c.if-not-take_key.ensures.1 (valued x rest) t.1)

pub returns-in_err-value-clause-reads : goal.returns-in_err-value-clause-reads
returns-in_err-value-clause-reads c = λ x rest w e.
    let n = c.in_ok-name.ensures.reads x.key (typed x rest) (no_name x.ty (valued x rest)) (after_first c.in_ok-begin_object.ensures e) in
    let t = c.in_ok-ty.ensures.reads x.ty (keyed x rest) (other_key (codes "value") (codes "type") (valued x rest) type_value) n.1 in
    let k = c.in_err-value.ensures.reads x.value (end_object ∷ rest) w.2 (after_first c.if-not-take_key.ensures t.1) in
    rw (is_memory c.from_residual-in_err-value.result c.in_err-value.field-0.0 k c.from_residual-in_err-value.ensures.1) refl

pub returns-in_err-end_object-clause-reads : goal.returns-in_err-end_object-clause-reads
returns-in_err-end_object-clause-reads c = λ x rest w e.
    let n = c.in_ok-name.ensures.reads x.key (typed x rest) (no_name x.ty (valued x rest)) (after_first c.in_ok-begin_object.ensures e) in
    let t = c.in_ok-ty.ensures.reads x.ty (keyed x rest) (other_key (codes "value") (codes "type") (valued x rest) type_value) n.1 in
    let v = c.in_ok-value.ensures.reads x.value (end_object ∷ rest) w.2 (after_first c.if-not-take_key.ensures t.1) in
    absurd (c.in_err-end_object.ensures.1 rest v.1)

pub returns-clause-reads : goal.returns-clause-reads
returns-clause-reads c = λ x rest w e.
    let n = c.in_ok-name.ensures.reads x.key (typed x rest) (no_name x.ty (valued x rest)) (after_first c.in_ok-begin_object.ensures e) in
    let t = c.in_ok-ty.ensures.reads x.ty (keyed x rest) (other_key (codes "value") (codes "type") (valued x rest) type_value) n.1 in
    let v = c.in_ok-value.ensures.reads x.value (end_object ∷ rest) w.2 (after_first c.if-not-take_key.ensures t.1) in
    (c.built.ensures.data ∙ same_entry x _ _ _ n.0 t.0 v.0, after_first c.in_ok-end_object.ensures v.1)

pub returns-clause-sound : goal.returns-clause-sound
returns-clause-sound c =
    c.in_ok-begin_object.ensures
    ∙ ap (λ (ts : List Token). begin_object ∷ ts) (c.in_ok-name.ensures.sound ∙ ap (member_tokens (codes "name") _) (c.in_ok-ty.ensures.sound ∙ ap (member_tokens (codes "type") _)
    (c.if-not-take_key.ensures ∙ ap (λ (ts : List Token). key (codes "value") ∷ ts) (c.in_ok-value.ensures.sound ∙ ap (value_tokens _) c.in_ok-end_object.ensures))))
    ∙ ap (λ (x : Entry). entry_tokens x (left c.end_object.new.self)) (sym c.built.ensures.data)
