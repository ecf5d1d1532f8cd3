use Rattle.std.proofs.Common.{rules, refl, ◌≡◌, ◌∷◌, [], length, slice_set}
use Rattle.c_calls.specs.Listed.{Fault}
use Rattle.c_calls.specs.declared.faults.KdlFault.{KdlFault}
use Rattle.c_calls.proofs.RowSteps.{none_told, told_more}
use Rattle.kdl_c.proofs.QuerySteps.{listed_one, none_set}
use Rattle.kdl_c.proofs.selection.put_query_fault.Goals as goal

pub returns-then-not-is_empty-clause-told : goal.returns-then-not-is_empty-clause-told
returns-then-not-is_empty-clause-told c =
    let p = c.put_string-place in
    let e = c.args.error.now in
    let t = c.args.text.now in
    let out = c.args.out.now in
    let row : KdlFault = record { start = e.span.offset; len = e.span.len; message_start = p.result.start; message_len = p.result.len } in
    let ss : length p.new.strings ≡ length c.args.strings.now = search rules in
    let rs : length (slice_set out 0 row) ≡ length out = search rules in
    told_more t out (slice_set out 0 row) 0 row c.args.strings.now p.new.strings 0 p.new.used (none_told t out c.args.strings.now 0) ss p.ensures.more
    (λ f. (c.requires, search rules)) rs (λ _. refl)

pub returns-then-not-is_empty-clause-listed : goal.returns-then-not-is_empty-clause-listed
returns-then-not-is_empty-clause-listed c =
    let p = c.put_string-place in
    let e = c.args.error.now in
    let out = c.args.out.now in
    let f : Fault = record { span = e.span; message = e.message.now; label = []; help = [] } in
    let row : KdlFault = record { start = e.span.offset; len = e.span.len; message_start = p.result.start; message_len = p.result.len } in (
      f ∷ [],
      (f, c.requires, refl),
      listed_one f out (slice_set out 0 row) c.args.strings.now p.new.strings p.new.used p.result.start p.result.len (search rules)
          p.ensures.start p.ensures.len refl p.ensures.put,
    )

pub returns-else-not-is_empty-clause-listed : goal.returns-else-not-is_empty-clause-listed
returns-else-not-is_empty-clause-listed c =
    let p = c.put_string-place in
    let e = c.args.error.now in
    let out = c.args.out.now in
    let f : Fault = record { span = e.span; message = e.message.now; label = []; help = [] } in
    let row : KdlFault = record { start = e.span.offset; len = e.span.len; message_start = p.result.start; message_len = p.result.len } in
    let none : length out ≡ 0 = search rules in (
      f ∷ [],
      (f, c.requires, refl),
      listed_one f out out c.args.strings.now p.new.strings p.new.used p.result.start p.result.len (search rules)
          p.ensures.start p.ensures.len (none_set out row none) p.ensures.put,
    )
