use Rattle.std.proofs.Common.{rules, ℕ, ap, ◌∙◌, refl, ◌≡◌, ◌++◌, ◌∷◌, [], length, slice_set}
use mathlib.Core.Path.{subst}
use Rattle.c_calls.specs.Strings.{HasPut, words_of}
use Rattle.c_calls.specs.Listed.{fault_of, fault_row}
use Rattle.c_calls.specs.declared.faults.KdlFault.{KdlFault}
use Rattle.c_calls.proofs.RowSteps.{told_more}
use Rattle.c_calls.proofs.faults.put_fault.Goals as goal

pub returns-then-at-out : goal.returns-then-at-out
returns-then-at-out c =
    let p = c.put_words-place in
    let span = c.args.fault.now.span in
    let row : KdlFault = record { start = span.offset; len = span.len; message_start = p.result.start; message_len = p.result.len } in
    let words = c.as_ref.ensures.value in
    record {
      told = λ text is old.
          let ss : length p.new.strings ≡ length c.args.strings.now = search rules in
          let rs : length (slice_set c.args.out.now c.args.at row) ≡ length c.args.out.now = search rules in
          told_more text c.args.out.now (slice_set c.args.out.now c.args.at row) c.args.at row c.args.strings.now p.new.strings c.args.used.now p.new.used old ss p.ensures.more
          (λ f. (is.span, p.ensures.within f)) rs (λ _. refl);
      row =
          let same : row ≡ fault_row c.args.used.now (fault_of c.args.fault.now) =
          ap (λ (s : ℕ). record row { message_start = s }) p.ensures.start
          ∙ ap (λ (n : ℕ). record row { message_start = c.args.used.now; message_len = n }) (p.ensures.len ∙ ap (λ m. length (words_of m)) words) in
          ap (slice_set c.args.out.now c.args.at) same;
      put = λ before ts h. subst (λ m. HasPut before (ts ++ words_of m ∷ []) p.new.strings p.new.used) words (p.ensures.put before ts h);
    }
