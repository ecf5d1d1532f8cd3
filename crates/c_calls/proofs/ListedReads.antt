-- What the rows say, read with the strings that were written.
use Rattle.std.proofs.Common.{arith, ◌≡◌, ℕ, ◌+◌, ◌-◌, ◌<◌, ◌≤◌, ◌++◌, ◌^◌, List, [], ◌∷◌, ap, ◌∙◌, sym, refl, length, length-append, take, take_at, drop, drop_at, append-nil, append_assoc, le-leb}
use Rattle.std.specs.Prelude.{All, zip}
use Rattle.std.specs.List.{concat}
use Rattle.std.proofs.lemmas.List.Elements.{All-cons}
use Rattle.std.proofs.lemmas.List.Folds.{concat-append}
use mathlib.Core.Path.{subst}
use Rattle.kdl_text.specs.Spans.{raise}
use Rattle.c_calls.specs.Strings.{fitting, over}
use Rattle.c_calls.specs.Listed.{Fault, HasBytes, SaysFault, SaysReport, all_words, fault_row, fault_rows, messages, report_row, report_rows}
use Rattle.c_calls.specs.declared.faults.KdlFault.{KdlFault}
use Rattle.c_calls.specs.declared.reports.KdlReport.{KdlReport}
use Rattle.c_calls.proofs.Fitting.{fit_short, over_length, over_short}

fit_split : (room : ℕ) (xs ys : List (List ℕ)) → length (concat xs) ≤ room → fitting room (xs ++ ys) ≡ concat xs ++ fitting (room - length (concat xs)) ys
fit_split room [] ys k = ap (λ (n : ℕ). fitting n ys) (omega arith)
fit_split room (t ∷ xs) ys k =
    let e : length (t ++ concat xs) ≡ length t + length (concat xs) = length-append t (concat xs) in
    let h : length t ≤ room = omega (arith, k, e) in
    let rest : room - length t - length (concat xs) ≡ room - length (t ++ concat xs) = omega (arith, k, e) in
    rw (le-leb (length t) room h) (ap (λ (z : List ℕ). t ++ z) (fit_split (room - length t) xs ys (omega (arith, k, e)))
    ∙ sym (append_assoc t (concat xs) (fitting (room - length t - length (concat xs)) ys))
    ∙ ap (λ (n : ℕ). t ++ concat xs ++ fitting n ys) rest)

-- a string that ends in the strings is written
written_there : (done ts : List (List ℕ)) (t s : List ℕ) (u : ℕ) → u ≡ raise 0 (length (concat done)) → length s < 2 ^ 64 - 1
    → HasBytes (over (fitting (length s) (done ++ t ∷ ts)) s) u (length t) t
written_there done ts t s u e small = (
  refl,
  λ k.
      let whole : List ℕ = over (fitting (length s) (done ++ t ∷ ts)) s in
      let size : length whole ≡ length s = over_length (fitting (length s) (done ++ t ∷ ts)) s in
      let at : u ≡ length (concat done) = omega (arith, e, small, k, size) in
      let joined : concat (done ++ t ∷ []) ≡ concat done ++ t = concat-append done (t ∷ []) ∙ ap (λ (z : List ℕ). concat done ++ z) (append-nil t) in
      let room : length (concat (done ++ t ∷ [])) ≤ length s = omega (arith, at, k, size, ap length joined, length-append (concat done) t) in
      let rest : List ℕ = fitting (length s - length (concat (done ++ t ∷ []))) ts in
      let fit : fitting (length s) (done ++ t ∷ ts) ≡ concat done ++ t ++ rest =
      ap (fitting (length s)) (sym (append_assoc done (t ∷ []) ts)) ∙ fit_split (length s) (done ++ t ∷ []) ts room ∙ ap (λ (z : List ℕ). z ++ rest) joined in
      let after : List ℕ = drop (length (fitting (length s) (done ++ t ∷ ts))) s in
      let is : whole ≡ concat done ++ (t ++ (rest ++ after)) =
      over_short (fitting (length s) (done ++ t ∷ ts)) s (fit_short (length s) (done ++ t ∷ ts)) ∙ ap (λ (z : List ℕ). z ++ after) fit ∙ simp append_assoc in
      record {
        within = k;
        reads = ap (λ (z : List ℕ). take (length t) (drop u z)) is ∙ ap (take (length t)) (drop_at (concat done) (t ++ (rest ++ after)) u (sym at)) ∙ take_at t (rest ++ after) (length t) refl;
      },
)

-- the count once a string more is done
done_more : (done : List (List ℕ)) (t : List ℕ) (u : ℕ) → u ≡ raise 0 (length (concat done)) → raise u (length t) ≡ raise 0 (length (concat (done ++ t ∷ [])))
done_more done t u e =
    let joined : concat (done ++ t ∷ []) ≡ concat done ++ t = concat-append done (t ∷ []) ∙ ap (λ (z : List ℕ). concat done ++ z) (append-nil t) in
    omega (arith, e, ap length joined, length-append (concat done) t)

says_after : (done : List (List ℕ)) (fs : List Fault) (out : List KdlFault) (s : List ℕ) (u : ℕ) → u ≡ raise 0 (length (concat done)) → length s < 2 ^ 64 - 1
    → All (λ (p : KdlFault × Fault). SaysFault (over (fitting (length s) (done ++ messages fs)) s) p.0 p.1) (zip (over (fault_rows u fs) out) fs)
says_after done [] [] s u e small = λ k d l. absurd (omega (arith, l))
says_after done [] (o ∷ out) s u e small = λ k d l. absurd (omega (arith, l))
says_after done (f ∷ fs) [] s u e small = λ k d l. absurd (omega (arith, l))
says_after done (f ∷ fs) (o ∷ out) s u e small =
    let v : ℕ = raise u (length f.message) in
    let P : List (List ℕ) → KdlFault × Fault → Type 0 = λ ts p. SaysFault (over (fitting (length s) ts) s) p.0 p.1 in
    let all : List (List ℕ) = done ++ f.message ∷ messages fs in
    let later : All (P (done ++ f.message ∷ [] ++ messages fs)) (zip (over (fault_rows v fs) out) fs) = says_after (done ++ f.message ∷ []) fs out s v (done_more done f.message u e) small in
    All-cons (P all) (fault_row u f, f) (zip (over (fault_rows v fs) out) fs)
    (record { start = refl; len = refl; message = written_there done (messages fs) f.message s u e small })
    (subst (λ (ts : List (List ℕ)). All (P ts) (zip (over (fault_rows v fs) out) fs)) (append_assoc done (f.message ∷ []) (messages fs)) later)

-- the rows that are written say their faults
pub says_faults : (fs : List Fault) (out : List KdlFault) (s : List ℕ) → length s < 2 ^ 64 - 1
    → All (λ (p : KdlFault × Fault). SaysFault (over (fitting (length s) (messages fs)) s) p.0 p.1) (zip (over (fault_rows 0 fs) out) fs)
says_faults fs out s small = says_after [] fs out s 0 refl small

reports_after : (done : List (List ℕ)) (fs : List Fault) (out : List KdlReport) (s : List ℕ) (u : ℕ) → u ≡ raise 0 (length (concat done)) → length s < 2 ^ 64 - 1
    → All (λ (p : KdlReport × Fault). SaysReport (over (fitting (length s) (done ++ all_words fs)) s) p.0 p.1) (zip (over (report_rows u fs) out) fs)
reports_after done [] [] s u e small = λ k d l. absurd (omega (arith, l))
reports_after done [] (o ∷ out) s u e small = λ k d l. absurd (omega (arith, l))
reports_after done (f ∷ fs) [] s u e small = λ k d l. absurd (omega (arith, l))
reports_after done (f ∷ fs) (o ∷ out) s u e small =
    let m : List ℕ = f.message in
    let l : List ℕ = f.label in
    let h : List ℕ = f.help in
    let u₁ : ℕ = raise u (length m) in
    let u₂ : ℕ = raise u₁ (length l) in
    let u₃ : ℕ = raise u₂ (length h) in
    let e₁ = done_more done m u e in
    let e₂ = done_more (done ++ m ∷ []) l u₁ e₁ in
    let e₃ = done_more (done ++ m ∷ [] ++ l ∷ []) h u₂ e₂ in
    let H : ℕ → List ℕ → List (List ℕ) → Type 0 = λ n t ts. HasBytes (over (fitting (length s) ts) s) n (length t) t in
    let P : List (List ℕ) → KdlReport × Fault → Type 0 = λ ts p. SaysReport (over (fitting (length s) ts) s) p.0 p.1 in
    let ws : List (List ℕ) = all_words fs in
    let all : List (List ℕ) = done ++ m ∷ l ∷ h ∷ ws in
    let second : done ++ m ∷ [] ++ l ∷ h ∷ ws ≡ all = append_assoc done (m ∷ []) (l ∷ h ∷ ws) in
    let third : done ++ m ∷ [] ++ l ∷ [] ++ h ∷ ws ≡ all = append_assoc (done ++ m ∷ []) (l ∷ []) (h ∷ ws) ∙ second in
    let last : done ++ m ∷ [] ++ l ∷ [] ++ h ∷ [] ++ ws ≡ all = append_assoc (done ++ m ∷ [] ++ l ∷ []) (h ∷ []) ws ∙ third in
    All-cons (P all) (report_row u f, f) (zip (over (report_rows u₃ fs) out) fs)
    (record {
      start = refl;
      len = refl;
      message = written_there done (l ∷ h ∷ ws) m s u e small;
      label = subst (H u₁ l) second (written_there (done ++ m ∷ []) (h ∷ ws) l s u₁ e₁ small);
      help = subst (H u₂ h) third (written_there (done ++ m ∷ [] ++ l ∷ []) ws h s u₂ e₂ small);
    })
    (subst (λ (ts : List (List ℕ)). All (P ts) (zip (over (report_rows u₃ fs) out) fs)) last (reports_after (done ++ m ∷ [] ++ l ∷ [] ++ h ∷ []) fs out s u₃ e₃ small))

-- the reports that are written say their faults
pub says_reports : (fs : List Fault) (out : List KdlReport) (s : List ℕ) → length s < 2 ^ 64 - 1
    → All (λ (p : KdlReport × Fault). SaysReport (over (fitting (length s) (all_words fs)) s) p.0 p.1) (zip (over (report_rows 0 fs) out) fs)
says_reports fs out s small = reports_after [] fs out s 0 refl small
