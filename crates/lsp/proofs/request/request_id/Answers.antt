use Rattle.std.proofs.Common.{arith, ◌≡◌, ◌∙◌, [], sym, Some, None}
use Rattle.json.specs.Json.{read_key, value}
use Rattle.json.specs.Lex.{tokens}
use Rattle.json.specs.Value.{value_view}
use Rattle.lsp.proofs.Asking.{begun, found, no_key, no_skip, no_value, not_asked, not_object, object_begins, read_id, read_method, read_other, shorter, unasked}
use Rattle.lsp.proofs.request.request_id.Goals as goal

pub loop-method-init : goal.loop-method-init
loop-method-init c =
    let begins = object_begins (tokens c.args.text.now) c.in_ok-reader.reader c.next.new.self c.next.result c.in_ok-reader.ensures.ok c.next.ensures.value (sym c.begins_object.ensures ∙ c.if-not-begins_object.false) in
    (begins, begun c.next.new.self)

pub returns-in_err-key-clause-invalid : goal.returns-in_err-key-clause-invalid
returns-in_err-key-clause-invalid c invalid id asks =
    let h = c.loop-method.invariant in
    not_asked c.args.text.now id (no_key c.args.text.now c.next.new.self h.0 c.loop-method.reader _ _ h.1 c.in_err-key.ensures.value) asks

pub returns-in_err-read-in-id-clause-invalid : goal.returns-in_err-read-in-id-clause-invalid
returns-in_err-read-in-id-clause-invalid c invalid id asks =
    let h = c.loop-method.invariant in
    let s = c.next_key.new.self in
    let key : read_key c.loop-method.reader ≡ Some (Some c.in-Some.key.now, s) = grind arith in
    let failed : value 127 s ≡ None = grind arith in
    not_asked c.args.text.now id (no_value c.args.text.now c.next.new.self h.0 c.loop-method.reader s _ _ _ h.1 key failed) asks

pub loop-method-smaller-then-str_eq : goal.loop-method-smaller-then-str_eq
loop-method-smaller-then-str_eq c =
    let s = c.next_key.new.self in
    let key : read_key c.loop-method.reader ≡ Some (Some c.in-Some.key.now, s) = grind arith in
    shorter c.loop-method.reader s c.read.new.reader _ key c.in_ok-read-in-id.ensures.shorter

pub loop-method-preserved-then-str_eq : goal.loop-method-preserved-then-str_eq
loop-method-preserved-then-str_eq c =
    let h = c.loop-method.invariant in
    let s = c.next_key.new.self in
    let key : read_key c.loop-method.reader ≡ Some (Some c.in-Some.key.now, s) = grind arith in
    let v = c.in_ok-read-in-id in
    (h.0, read_id c.next.new.self c.loop-method.reader s c.read.new.reader c.in-Some.key.now (value_view v.field-0) _ _ h.1 key v.ensures.ok v.ensures.shorter c.in-id.is)

pub returns-in_err-read-in-method-clause-invalid : goal.returns-in_err-read-in-method-clause-invalid
returns-in_err-read-in-method-clause-invalid c invalid id asks =
    let h = c.loop-method.invariant in
    let s = c.next_key.new.self in
    let key : read_key c.loop-method.reader ≡ Some (Some c.in-Some.key.now, s) = grind arith in
    let failed : value 127 s ≡ None = grind arith in
    not_asked c.args.text.now id (no_value c.args.text.now c.next.new.self h.0 c.loop-method.reader s _ _ _ h.1 key failed) asks

pub loop-method-smaller-then-str_eq-2 : goal.loop-method-smaller-then-str_eq-2
loop-method-smaller-then-str_eq-2 c =
    let s = c.next_key.new.self in
    let key : read_key c.loop-method.reader ≡ Some (Some c.in-Some.key.now, s) = grind arith in
    shorter c.loop-method.reader s c.read-in-method.new.reader _ key c.in_ok-read-in-method.ensures.shorter

pub loop-method-preserved-then-str_eq-2 : goal.loop-method-preserved-then-str_eq-2
loop-method-preserved-then-str_eq-2 c =
    let h = c.loop-method.invariant in
    let s = c.next_key.new.self in
    let key : read_key c.loop-method.reader ≡ Some (Some c.in-Some.key.now, s) = grind arith in
    let v = c.in_ok-read-in-method in
    (h.0, read_method c.next.new.self c.loop-method.reader s c.read-in-method.new.reader c.in-Some.key.now (value_view v.field-0) _ _ h.1 key v.ensures.ok v.ensures.shorter c.in-method.is)

pub loop-method-smaller : goal.loop-method-smaller
loop-method-smaller c =
    let s = c.next_key.new.self in
    let key : read_key c.loop-method.reader ≡ Some (Some c.in-Some.key.now, s) = grind arith in
    shorter c.loop-method.reader s c.skip_value.new.self _ key c.in_ok-skip_value-in_default-key.ensures.shorter

pub loop-method-preserved : goal.loop-method-preserved
loop-method-preserved c =
    let h = c.loop-method.invariant in
    let s = c.next_key.new.self in
    let key : read_key c.loop-method.reader ≡ Some (Some c.in-Some.key.now, s) = grind arith in
    let v = c.in_ok-skip_value-in_default-key in
    (h.0, read_other c.next.new.self c.loop-method.reader s c.skip_value.new.self c.in-Some.key.now _ _ h.1 key v.ensures.value v.ensures.shorter c.in_default-key.not-id c.in_default-key.not-method)

pub returns-in_err-skip_value-in_default-key-clause-invalid : goal.returns-in_err-skip_value-in_default-key-clause-invalid
returns-in_err-skip_value-in_default-key-clause-invalid c invalid id asks =
    let h = c.loop-method.invariant in
    let s = c.next_key.new.self in
    let key : read_key c.loop-method.reader ≡ Some (Some c.in-Some.key.now, s) = grind arith in
    not_asked c.args.text.now id (no_skip c.args.text.now c.next.new.self h.0 c.loop-method.reader s _ _ _ h.1 key c.in_err-skip_value-in_default-key.ensures.value) asks

pub returns-then-not-begins_object-clause-found : goal.returns-then-not-begins_object-clause-found
returns-then-not-begins_object-clause-found c =
    not_object c.args.text.now c.in_ok-reader.reader c.next.new.self c.next.result c.in_ok-reader.ensures.ok c.next.ensures.value (sym c.begins_object.ensures ∙ c.if-not-begins_object.true)

pub returns-then-is_some-clause-found : goal.returns-then-is_some-clause-found
returns-then-is_some-clause-found c id asks =
    let h = c.loop-method.invariant in
    let end : read_key c.loop-method.reader ≡ Some (None, c.next_key.new.self) = grind arith in
    let u = unasked c.args.text.now c.next.new.self h.0 c.loop-method.reader c.next_key.new.self _ _ h.1 end id asks in
    let nothing : c.next_key.new.self ≡ [] = u.0 in
    absurd (grind (arith, nothing))

pub returns-then-not-is_text-clause-found : goal.returns-then-not-is_text-clause-found
returns-then-not-is_text-clause-found c id asks =
    let h = c.loop-method.invariant in
    let end : read_key c.loop-method.reader ≡ Some (None, c.next_key.new.self) = grind arith in
    let u = unasked c.args.text.now c.next.new.self h.0 c.loop-method.reader c.next_key.new.self _ _ h.1 end id asks in
    let named = u.2 in
    absurd (grind (arith, named))

pub returns-clause-found : goal.returns-clause-found
returns-clause-found c =
    let h = c.loop-method.invariant in
    let nothing : c.next_key.new.self ≡ [] = grind arith in
    let end : read_key c.loop-method.reader ≡ Some (None, []) = grind (arith, nothing) in
    found c.args.text.now c.next.new.self h.0 value_view c.loop-method.reader c.loop-method.id _ h.1 end (grind arith)
