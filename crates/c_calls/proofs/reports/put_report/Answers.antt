use Rattle.std.proofs.Common.{rules, arith, ℕ, List, ap, ◌∙◌, refl, ◌≡◌, ◌≤◌, ◌++◌, ◌∷◌, [], sym, append_assoc, length, slice_set}
use mathlib.Core.Path.{subst}
use Rattle.kdl_text.specs.Spans.{raise}
use Rattle.c_calls.specs.Strings.{HasPut, words_of}
use Rattle.c_calls.specs.Listed.{fault_of}
use Rattle.c_calls.specs.declared.reports.KdlReport.{KdlReport}
use Rattle.c_calls.proofs.ListedSteps.{same_report}
use Rattle.c_calls.proofs.ReportSteps.{reported_more}
use Rattle.c_calls.proofs.reports.put_report.Goals as goal

pub returns-then-at-out : goal.returns-then-at-out
returns-then-at-out c =
    let m = c.put_words-message in
    let l = c.put_words-label in
    let h = c.put_words-help in
    let d = c.args.fault.now in
    let message = c.as_ref.ensures.value in
    let label = c.as_ref-2.ensures.value in
    let help = c.as_ref-3.ensures.value in
    let row : KdlReport = record { start = d.span.offset; len = d.span.len; message_start = m.result.start; message_len = m.result.len; label_start = l.result.start; label_len = l.result.len; help_start = h.result.start; help_len = h.result.len } in
    record {
      told = λ text is old.
          let sm : length m.new.strings ≡ length c.args.strings.now = search rules in
          let sl : length l.new.strings ≡ length c.args.strings.now = search rules in
          let ss : length h.new.strings ≡ length c.args.strings.now = search rules in
          let more : c.args.used.now ≤ h.new.used = omega (arith, m.ensures.more, l.ensures.more, h.ensures.more) in
          let rs : length (slice_set c.args.out.now c.args.at row) ≡ length c.args.out.now = search rules in
          reported_more text c.args.out.now (slice_set c.args.out.now c.args.at row) c.args.at row c.args.strings.now h.new.strings c.args.used.now h.new.used old ss more
          (λ f. record {
            piece = is.span;
            message = omega (arith, m.ensures.within (omega (arith, f, l.ensures.more, h.ensures.more)), l.ensures.more, h.ensures.more);
            label = omega (arith, l.ensures.within (omega (arith, f, sm, h.ensures.more)), h.ensures.more);
            help = h.ensures.within (omega (arith, f, sl));
          }) rs (λ _. refl);
      row =
          let f = fault_of d in
          let label_start : ℕ = raise c.args.used.now (length f.message) in
          let ll : l.result.start ≡ label_start = l.ensures.start ∙ m.ensures.counted ∙ ap (λ t. raise c.args.used.now (length (words_of t))) message in
          let hh : h.result.start ≡ raise label_start (length f.label) = h.ensures.start ∙ l.ensures.counted ∙ ap (λ t. raise m.new.used (length (words_of t))) label ∙ ap (λ (n : ℕ). raise n (length f.label)) (sym l.ensures.start ∙ ll) in
          ap (slice_set c.args.out.now c.args.at) (same_report row _ _ _ _ _ _
          m.ensures.start (m.ensures.len ∙ ap (λ t. length (words_of t)) message)
          ll (l.ensures.len ∙ ap (λ t. length (words_of t)) label)
          hh (h.ensures.len ∙ ap (λ t. length (words_of t)) help));
      put = λ before ts is.
          let one = subst (λ t. HasPut before (ts ++ words_of t ∷ []) m.new.strings m.new.used) message (m.ensures.put before ts is) in
          let ts₁ : List (List ℕ) = ts ++ words_of d.message ∷ [] in
          let two = subst (λ t. HasPut before (ts₁ ++ words_of t ∷ []) l.new.strings l.new.used) label (l.ensures.put before ts₁ one) in
          let ts₂ : List (List ℕ) = ts₁ ++ words_of d.label ∷ [] in
          let three = subst (λ t. HasPut before (ts₂ ++ words_of t ∷ []) h.new.strings h.new.used) help (h.ensures.put before ts₂ two) in
          subst (λ (z : List (List ℕ)). HasPut before z h.new.strings h.new.used) (simp append_assoc) three;
    }
