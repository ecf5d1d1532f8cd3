-- One fault more, after those that are listed.
use Rattle.std.proofs.Common.{arith, ◌≡◌, ℕ, suc, ◌+◌, ◌-◌, ◌<◌, ◌≤◌, ◌++◌, ◌^◌, List, [], ◌∷◌, ap, ◌∙◌, sym, refl, length, length-append, map, slice_index_or, slice_set, take}
use Rattle.std.specs.Prelude.{All, zip}
use Rattle.std.specs.List.{concat}
use Rattle.std.proofs.lemmas.List.{map-append, take_more}
use mathlib.Core.Path.{subst}
use Rattle.kdl_text.specs.Spans.{raise}
use Rattle.kdl_text.specs.declared.error.KdlDiagnostic.{KdlDiagnostic}
use Rattle.c_calls.specs.Strings.{HasPut, fitting, over}
use Rattle.c_calls.specs.Listed.{AreReportsListed, AreListed, Fault, SaysFault, SaysReport, all_words, fault_of, fault_row, fault_rows, messages, report_row, report_rows}
use Rattle.c_calls.specs.declared.faults.KdlFault.{KdlFault}
use Rattle.c_calls.specs.declared.reports.KdlReport.{KdlReport}
use Rattle.c_calls.proofs.Fitting.{over_more, over_none, put_nothing}
use Rattle.c_calls.proofs.ListedReads.{says_faults, says_reports}

-- the diagnostics up to the next one
pub next_faults : (ds : List KdlDiagnostic) (k : ℕ) (d : KdlDiagnostic) → k < length ds → d ≡ slice_index_or ds k d → map fault_of (take (k + 1) ds) ≡ map fault_of (take k ds) ++ fault_of d ∷ []
next_faults ds k d l e = ap (map fault_of) (take_more ds k d l) ∙ map-append fault_of (take k ds) (slice_index_or ds k d ∷ []) ∙ ap (λ x. map fault_of (take k ds) ++ fault_of x ∷ []) (sym e)

messages_next : (fs : List Fault) (f : Fault) → messages (fs ++ f ∷ []) ≡ messages fs ++ f.message ∷ []
messages_next [] f = refl
messages_next (x ∷ fs) f = ap (λ (z : List (List ℕ)). x.message ∷ z) (messages_next fs f)

rows_length : (u : ℕ) (fs : List Fault) → length (fault_rows u fs) ≡ length fs
rows_length u [] = refl
rows_length u (f ∷ fs) = ap suc (rows_length (raise u (length f.message)) fs)

rows_next : (u v : ℕ) (fs : List Fault) (f : Fault) → u ≤ 2 ^ 64 - 1 → v ≡ raise u (length (concat (messages fs))) → fault_rows u (fs ++ f ∷ []) ≡ fault_rows u fs ++ fault_row v f ∷ []
rows_next u v [] f k e = let same : u ≡ v = omega (arith, k, e) in ap (λ (n : ℕ). fault_row n f ∷ []) same
rows_next u v (x ∷ fs) f k e = ap (λ z. fault_row u x ∷ z) (rows_next (raise u (length x.message)) v fs f (omega arith) (omega (arith, e, length-append x.message (concat (messages fs)))))

pub listed : (fs : List Fault) (out₀ out : List KdlFault) (k : ℕ) (s₀ s : List ℕ) (u : ℕ) → length s₀ < 2 ^ 64 - 1
    → k ≡ length fs → out ≡ over (fault_rows 0 fs) out₀ → HasPut s₀ (messages fs) s u → AreListed fs out₀ out k s₀ s u
listed fs out₀ out k s₀ s u small counted rows words = record {
  counted = counted;
  rows = rows;
  words = words;
  each = subst (λ (t : List ℕ). All (λ (p : KdlFault × Fault). SaysFault t p.0 p.1) (zip out fs)) (sym words.written)
      (subst (λ (o : List KdlFault). All (λ (p : KdlFault × Fault). SaysFault (over (fitting (length s₀) (messages fs)) s₀) p.0 p.1) (zip o fs)) (sym rows) (says_faults fs out₀ s₀ small));
}

pub listed_more : (fs : List Fault) (f : Fault) (out₀ out out' : List KdlFault) (k : ℕ) (s₀ s s' : List ℕ) (u u' : ℕ)
    → length s₀ < 2 ^ 64 - 1 → AreListed fs out₀ out k s₀ s u → out' ≡ slice_set out k (fault_row u f)
    → ((before : List ℕ) (ts : List (List ℕ)) → HasPut before ts s u → HasPut before (ts ++ f.message ∷ []) s' u')
    → AreListed (fs ++ f ∷ []) out₀ out' (k + 1) s₀ s' u'
listed_more fs f out₀ out out' k s₀ s s' u u' small h row put = listed (fs ++ f ∷ []) out₀ out' (k + 1) s₀ s' u' small
    (omega (arith, h.counted, length-append fs (f ∷ [])))
    (row ∙ ap (λ z. slice_set z k (fault_row u f)) h.rows ∙ ap (λ (i : ℕ). slice_set (over (fault_rows 0 fs) out₀) i (fault_row u f)) (h.counted ∙ sym (rows_length 0 fs))
    ∙ over_more (fault_rows 0 fs) (fault_row u f) out₀ ∙ ap (λ z. over z out₀) (sym (rows_next 0 u fs f (omega arith) h.words.counted)))
    (subst (λ (ts : List (List ℕ)). HasPut s₀ ts s' u') (sym (messages_next fs f)) (put s₀ (messages fs) h.words))

pub listed_none : (out : List KdlFault) (s : List ℕ) → length s < 2 ^ 64 - 1 → AreListed [] out out 0 s s 0
listed_none out s small = listed [] out out 0 s s 0 small refl (sym (over_none out)) (put_nothing s)

-- the same of reports
report_of : (start len message_start message_len label_start label_len help_start help_len : ℕ) → KdlReport
report_of s l ms ml ls ll hs hl = record { start = s; len = l; message_start = ms; message_len = ml; label_start = ls; label_len = ll; help_start = hs; help_len = hl }

same_parts : (s l ms ml ls ll hs hl ms' ml' ls' ll' hs' hl' : ℕ) → ms ≡ ms' → ml ≡ ml' → ls ≡ ls' → ll ≡ ll' → hs ≡ hs' → hl ≡ hl'
    → report_of s l ms ml ls ll hs hl ≡ report_of s l ms' ml' ls' ll' hs' hl'
same_parts s l ms ml ls ll hs hl ms' ml' ls' ll' hs' hl' a b c d e f = cc

pub same_report : (r : KdlReport) (ms ml ls ll hs hl : ℕ) → r.message_start ≡ ms → r.message_len ≡ ml → r.label_start ≡ ls → r.label_len ≡ ll → r.help_start ≡ hs → r.help_len ≡ hl
    → r ≡ record { start = r.start; len = r.len; message_start = ms; message_len = ml; label_start = ls; label_len = ll; help_start = hs; help_len = hl }
unfolding report_of
same_report r ms ml ls ll hs hl = same_parts r.start r.len r.message_start r.message_len r.label_start r.label_len r.help_start r.help_len ms ml ls ll hs hl

all_words_next : (fs : List Fault) (f : Fault) → all_words (fs ++ f ∷ []) ≡ all_words fs ++ f.message ∷ f.label ∷ f.help ∷ []
all_words_next [] f = refl
all_words_next (x ∷ fs) f = ap (λ (z : List (List ℕ)). x.message ∷ x.label ∷ x.help ∷ z) (all_words_next fs f)

reports_length : (u : ℕ) (fs : List Fault) → length (report_rows u fs) ≡ length fs
reports_length u [] = refl
reports_length u (f ∷ fs) = ap suc (reports_length (raise (raise (raise u (length f.message)) (length f.label)) (length f.help)) fs)

reports_next : (u v : ℕ) (fs : List Fault) (f : Fault) → u ≤ 2 ^ 64 - 1 → v ≡ raise u (length (concat (all_words fs))) → report_rows u (fs ++ f ∷ []) ≡ report_rows u fs ++ report_row v f ∷ []
reports_next u v [] f k e = let same : u ≡ v = omega (arith, k, e) in ap (λ (n : ℕ). report_row n f ∷ []) same
reports_next u v (x ∷ fs) f k e =
    let ws : List ℕ = concat (all_words fs) in
    let sum : length (x.message ++ (x.label ++ (x.help ++ ws))) ≡ length x.message + (length x.label + (length x.help + length ws)) =
    omega (arith, length-append x.message (x.label ++ (x.help ++ ws)), length-append x.label (x.help ++ ws), length-append x.help ws) in
    ap (λ z. report_row u x ∷ z) (reports_next (raise (raise (raise u (length x.message)) (length x.label)) (length x.help)) v fs f (omega arith) (omega (arith, e, sum)))

pub reports_listed : (fs : List Fault) (out₀ out : List KdlReport) (k : ℕ) (s₀ s : List ℕ) (u : ℕ) → length s₀ < 2 ^ 64 - 1
    → k ≡ length fs → out ≡ over (report_rows 0 fs) out₀ → HasPut s₀ (all_words fs) s u → AreReportsListed fs out₀ out k s₀ s u
reports_listed fs out₀ out k s₀ s u small counted rows words = record {
  counted = counted;
  rows = rows;
  words = words;
  each = subst (λ (t : List ℕ). All (λ (p : KdlReport × Fault). SaysReport t p.0 p.1) (zip out fs)) (sym words.written)
      (subst (λ (o : List KdlReport). All (λ (p : KdlReport × Fault). SaysReport (over (fitting (length s₀) (all_words fs)) s₀) p.0 p.1) (zip o fs)) (sym rows) (says_reports fs out₀ s₀ small));
}

pub reports_listed_more : (fs : List Fault) (f : Fault) (out₀ out out' : List KdlReport) (k : ℕ) (s₀ s s' : List ℕ) (u u' : ℕ)
    → length s₀ < 2 ^ 64 - 1 → AreReportsListed fs out₀ out k s₀ s u → out' ≡ slice_set out k (report_row u f)
    → ((before : List ℕ) (ts : List (List ℕ)) → HasPut before ts s u → HasPut before (ts ++ f.message ∷ f.label ∷ f.help ∷ []) s' u')
    → AreReportsListed (fs ++ f ∷ []) out₀ out' (k + 1) s₀ s' u'
reports_listed_more fs f out₀ out out' k s₀ s s' u u' small h row put = reports_listed (fs ++ f ∷ []) out₀ out' (k + 1) s₀ s' u' small
    (omega (arith, h.counted, length-append fs (f ∷ [])))
    (row ∙ ap (λ z. slice_set z k (report_row u f)) h.rows ∙ ap (λ (i : ℕ). slice_set (over (report_rows 0 fs) out₀) i (report_row u f)) (h.counted ∙ sym (reports_length 0 fs))
    ∙ over_more (report_rows 0 fs) (report_row u f) out₀ ∙ ap (λ z. over z out₀) (sym (reports_next 0 u fs f (omega arith) h.words.counted)))
    (subst (λ (ts : List (List ℕ)). HasPut s₀ ts s' u') (sym (all_words_next fs f)) (put s₀ (all_words fs) h.words))

pub reports_listed_none : (out : List KdlReport) (s : List ℕ) → length s < 2 ^ 64 - 1 → AreReportsListed [] out out 0 s s 0
reports_listed_none out s small = reports_listed [] out out 0 s s 0 small refl (sym (over_none out)) (put_nothing s)
