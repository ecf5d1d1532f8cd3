use Rattle.std.proofs.Common.{rules, refl, ◌≡◌, ◌<◌, ◌^◌, ◌-◌, ◌++◌, ◌∷◌, [], ◌∙◌, ℕ, List, ap, length, slice_set}
use Rattle.c_calls.specs.declared.faults.KdlFault.{KdlFault}
use Rattle.c_calls.specs.Strings.{HasPut}
use Rattle.c_calls.specs.Listed.{AreListed}
use Rattle.c_calls.specs.Reading.{not_value}
use Rattle.c_calls.proofs.ListedSteps.{listed_more, listed_none}
use Rattle.c_calls.proofs.ReadingSteps.{whole_text}
use Rattle.c_calls.proofs.RowSteps.{none_told, told_more}
use Rattle.c_calls.proofs.given_faults.put_not_value.Goals as goal

pub returns-then-not-is_empty-clause-told : goal.returns-then-not-is_empty-clause-told
returns-then-not-is_empty-clause-told c =
    let p = c.put_string-place in
    let t = c.args.text.now in
    let out = c.args.out.now in
    let row : KdlFault = record { start = 0; len = length t; message_start = p.result.start; message_len = p.result.len } in
    let ss : length p.new.strings ≡ length c.args.strings.now = search rules in
    let rs : length (slice_set out 0 row) ≡ length out = search rules in
    told_more t out (slice_set out 0 row) 0 row c.args.strings.now p.new.strings 0 p.new.used (none_told t out c.args.strings.now 0) ss p.ensures.more
    (λ f. (whole_text t c.utf8.text, search rules)) rs (λ _. refl)

listed_one : (t : List ℕ) (out out' : List KdlFault) (s s' : List ℕ) (u start len : ℕ) → length s < 2 ^ 64 - 1
    → start ≡ 0 → len ≡ length (not_value t).message
    → out' ≡ slice_set out 0 (record { start = 0; len = length t; message_start = start; message_len = len })
    → ((before : List ℕ) (ts : List (List ℕ)) → HasPut before ts s 0 → HasPut before (ts ++ (not_value t).message ∷ []) s' u)
    → AreListed (not_value t ∷ []) out out' 1 s s' u
listed_one t out out' s s' u start len small e f row put =
    listed_more [] (not_value t) out out out' 0 s s s' 0 u small (listed_none out s small)
    (row ∙ ap (λ (n : ℕ). slice_set out 0 (record { start = 0; len = length t; message_start = n; message_len = len })) e
    ∙ ap (λ (n : ℕ). slice_set out 0 (record { start = 0; len = length t; message_start = 0; message_len = n })) f) put

pub returns-then-not-is_empty-clause-listed : goal.returns-then-not-is_empty-clause-listed
returns-then-not-is_empty-clause-listed c =
    let p = c.put_string-place in
    let t = c.args.text.now in
    let out = c.args.out.now in
    let row : KdlFault = record { start = 0; len = length t; message_start = p.result.start; message_len = p.result.len } in
    listed_one t out (slice_set out 0 row) c.args.strings.now p.new.strings p.new.used p.result.start p.result.len (search rules)
    p.ensures.start p.ensures.len refl p.ensures.put
