use Rattle.kdl_laws.proofs.Common.{◌≡◌, [], Bool, List, chars, subst, sym, true, false, ℕ, ◌≢◌, text_of, EndsLine}
use Rattle.std.specs.Prelude.{MatchBool}
use Rattle.kdl_layout.proofs.Rewriting.Pushing.{no_bytes}
use Rattle.kdl_laws.proofs.reading_back.is_line_ended.Goals as goal

pub returns-then-is_empty : goal.returns-then-is_empty
returns-then-is_empty c =
    let f = c.args.format.now in
    let empty = λ (b : List ℕ). MatchBool true (chars b ≡ []) (chars b ≢ []) in
    let alone = subst (λ (x : Bool). MatchBool x (chars c.as_str.result.now ≡ []) (chars c.as_str.result.now ≢ [])) c.if-is_empty.true (no_bytes c.is_empty.result c.as_str.result.now c.as_str.utf8 c.is_empty.ensures) in
    let none : text_of f.trailing ≡ [] = subst empty c.as_str.ensures.value alone in
    let ends = λ (x : List ℕ). EndsLine (chars x) in
    (λ h. (none, subst ends c.deref.ensures (c.is_line_end.ensures.0 h)), λ x. c.is_line_end.ensures.1 (subst ends (sym c.deref.ensures) x.1))

pub returns-else-is_empty : goal.returns-else-is_empty
returns-else-is_empty c =
    let f = c.args.format.now in
    let some = λ (b : List ℕ). MatchBool false (chars b ≡ []) (chars b ≢ []) in
    let there = subst (λ (x : Bool). MatchBool x (chars c.as_str.result.now ≡ []) (chars c.as_str.result.now ≢ [])) c.if-is_empty.false (no_bytes c.is_empty.result c.as_str.result.now c.as_str.utf8 c.is_empty.ensures) in
    let not_none : text_of f.trailing ≢ [] = subst some c.as_str.ensures.value there in
    (λ h. absurd (cc), λ x. absurd (not_none x.0))
