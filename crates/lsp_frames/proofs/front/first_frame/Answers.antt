use Rattle.std.proofs.Common.{◌≡◌, ◌∙◌, Option, List, length, take, drop, min, sym, ap, ℕ, arith}
use Rattle.std.proofs.lemmas.List.{drop-drop, take_min}
use Rattle.lsp_frames.specs.Heads.{head_end, length_in, place_of}
use Rattle.lsp_frames.specs.Frames.{head_size, most}
use Rattle.lsp_frames.proofs.Fronts.{bodiless, headless_bad, headless_part, lengthless, whole_of}
use Rattle.lsp_frames.proofs.front.first_frame.Goals as goal

-- what a search in the first bytes has told
head_from : (bytes : List ℕ) (n : ℕ) (r o : Option ℕ) → n ≡ min most (length bytes) → r ≡ place_of head_end (take n bytes) → r ≡ o → head_size bytes ≡ o
unfolding head_size
head_from bytes n r o m p e = ap (place_of head_end) (sym (take_min most bytes) ∙ ap (λ k. take k bytes) (sym m)) ∙ sym p ∙ e

pub returns-then-bytes-limit : goal.returns-then-bytes-limit
returns-then-bytes-limit c =
    headless_part c.args.bytes.now (head_from c.args.bytes.now _ _ _ c.min.ensures c.place_of.ensures.place c.in_default.is) c.if-bytes-limit.true

pub returns-else-bytes-limit : goal.returns-else-bytes-limit
returns-else-bytes-limit c =
    headless_bad c.args.bytes.now (head_from c.args.bytes.now _ _ _ c.min.ensures c.place_of.ensures.place c.in_default.is) c.if-bytes-limit.false

pub returns-in_default-length_in : goal.returns-in_default-length_in
returns-in_default-length_in c =
    let none = ap length_in (sym c.split_at.ensures.front) ∙ sym c.length_in.ensures ∙ c.in_default-length_in.is in
    lengthless c.args.bytes.now c.in-Some.size (head_from c.args.bytes.now _ _ _ c.min.ensures c.place_of.ensures.place c.in-Some.is) none

pub returns-in-Some-split_at_checked : goal.returns-in-Some-split_at_checked
returns-in-Some-split_at_checked c =
    let given = ap length_in (sym c.split_at.ensures.front) ∙ sym c.length_in.ensures ∙ c.in-Some-length_in.is in
    let rear = c.split_at-2.ensures.back ∙ ap (drop 4) c.split_at.ensures.back ∙ drop-drop 4 c.in-Some.size c.args.bytes.now in
    let cut = c.in-Some-split_at_checked.ensures.cases in
    whole_of c.args.bytes.now _ _ _ c.in-Some.size c.in-Some-length_in.length
    (head_from c.args.bytes.now _ _ _ c.min.ensures c.place_of.ensures.place c.in-Some.is) given rear cut.0 cut.1 cut.2

pub returns-in-None : goal.returns-in-None
returns-in-None c =
    let given = ap length_in (sym c.split_at.ensures.front) ∙ sym c.length_in.ensures ∙ c.in-Some-length_in.is in
    let rear = c.split_at-2.ensures.back ∙ ap (drop 4) c.split_at.ensures.back ∙ drop-drop 4 c.in-Some.size c.args.bytes.now in
    bodiless c.args.bytes.now c.in-Some.size c.in-Some-length_in.length
    (head_from c.args.bytes.now _ _ _ c.min.ensures c.place_of.ensures.place c.in-Some.is) given (omega (arith, ap length rear, c.in-None.ensures.cases))
