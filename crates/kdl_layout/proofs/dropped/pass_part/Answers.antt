use Rattle.kdl_layout.proofs.Common.{sym, ap, subst, ◌∙◌, ℕ, chars, Here, kind_view, place_view, for_part, slashdash_in, control_view}
use Rattle.kdl_layout.proofs.Dropping.TokenLoop.{Goes, part_starts, part_on, goes_further, part_stops, faulty, refused_here, part_word, part_over, cut_shorter}
use Rattle.kdl_layout.proofs.dropped.pass_part.Goals as goal

pub tokens-init : goal.tokens-init
tokens-init c =
    part_starts (place_view c.args.place) (chars c.args.text.now) c.new-cursor.result (control_view c.new-control.result) (ap (λ (h : Here). h.rest) c.new-cursor.ensures) (ap (λ (h : Here). h.at) c.new-cursor.ensures) (c.new-control.ensures ∙ c.slashdash_phase.ensures)

pub returns-in-Ok-None : goal.returns-in-Ok-None
returns-in-Ok-None c =
    rw (c.then_some.ensures, c.is_word.ensures) (part_stops (place_view c.args.place) (chars c.args.text.now) c.tokens.cursor (control_view c.tokens.control) c.tokens.last c.tokens.invariant (rw c.in-Ok-None.field-0-is at c.in-Ok-None.ensures.lexed))

pub returns-in-Err-Faulty : goal.returns-in-Err-Faulty
returns-in-Err-Faulty c = faulty c.tokens.invariant (rw c.in-Err-Faulty.field-0-is at c.in-Err-Faulty.ensures.lexed)

pub returns-then-ends_word : goal.returns-then-ends_word
returns-then-ends_word c =
    let h = rw c.in-Ok-Some.field-0-is at c.in-Ok-Some.ensures.lexed in
    part_word (place_view c.args.place) (chars c.args.text.now) c.tokens.cursor c.next.new.cursor (control_view c.tokens.control) c.in-Ok-Some.token c.tokens.last c.tokens.invariant h
    (sym c.ends_word.ensures ∙ c.if-ends_word.true)

pub returns-then-not-branch : goal.returns-then-not-branch
returns-then-not-branch c =
    let h = rw c.in-Ok-Some.field-0-is at c.in-Ok-Some.ensures.lexed in
    refused_here c.tokens.invariant c.in-Ok-Some.token h (rw c.if-not-branch.true at c.in_ok-take.ensures) (part_on (control_view c.tokens.control) (kind_view c.in-Ok-Some.token.kind) c.tokens.invariant.under_way (sym c.ends_word.ensures ∙ c.if-ends_word.false))

pub returns-in-Some : goal.returns-in-Some
returns-in-Some c =
    let h = rw c.in-Ok-Some.field-0-is at c.in-Ok-Some.ensures.lexed in
    let f = rw c.if-not-branch.false at c.in_ok-take.ensures in
    part_over (place_view c.args.place) (chars c.args.text.now) c.tokens.cursor c.next.new.cursor (control_view c.tokens.control) (control_view c.take.new.self) c.in-Ok-Some.token c.tokens.last c.end_after-last.result c.in-Some.ended c.tokens.invariant h
    c.next.ensures.moves (sym c.ends_word.ensures ∙ c.if-ends_word.false) f c.end_after-last.ensures c.in-Some.ensures.0 c.in-Some.ensures.1

pub tokens-smaller : goal.tokens-smaller
tokens-smaller c =
    let h = rw c.in-Ok-Some.field-0-is at c.in-Ok-Some.ensures.lexed in
    cut_shorter h.cuts

pub tokens-preserved : goal.tokens-preserved
tokens-preserved c =
    let h = rw c.in-Ok-Some.field-0-is at c.in-Ok-Some.ensures.lexed in
    subst (λ (n : ℕ). Goes for_part (slashdash_in (place_view c.args.place)) c.next.new.cursor (control_view c.take.new.self) (chars c.args.text.now) n) (sym c.end_after-last.ensures)
    (goes_further c.tokens.invariant c.in-Ok-Some.token h c.next.ensures.moves (rw c.if-not-branch.false at c.in_ok-take.ensures) (part_on (control_view c.tokens.control) (kind_view c.in-Ok-Some.token.kind) c.tokens.invariant.under_way (sym c.ends_word.ensures ∙ c.if-ends_word.false)) c.in_default.ensures)
