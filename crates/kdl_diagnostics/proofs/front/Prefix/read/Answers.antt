use Rattle.std.proofs.Common.{refl, sym, ap, ◌∙◌, arith}
use Rattle.kdl_text.specs.Internal.Here.{Position}
use Rattle.kdl_diagnostics.specs.Internal.Outsets.{text_view}
use Rattle.kdl_diagnostics.proofs.FrontEnds.{at_the_text_end, ends_at, ends_over, new_matched, no_token_here, over_token, refused, starts, stopped_at_end, stopped_before}
use Rattle.kdl_diagnostics.proofs.FrontReads.{begun, front_begins, front_goes_on, front_counts, front_ends, front_lies, nearer, token_lies, token_end_lies}
use Rattle.kdl_diagnostics.proofs.NotedSpans.{same_lies}
use Rattle.kdl_diagnostics.proofs.front.Prefix.read.Goals as goal

pub tokens-init : goal.tokens-init
tokens-init c =
    let f = front_begins c.args.cursor.now c.skip_bom.new.cursor c.skip_bom.ensures.moves c.skip_bom.ensures.costs in
    record {
      fronting = f;
      keeps = λ text e x.
          (let u = front_lies text c.args.cursor.now c.skip_bom.new.cursor c.checkpoint-self.result f e c.checkpoint-self.ensures.rest in
          record { notes = x.notes; place = u; from = same_lies text _ _ c.copied-self.ensures u });
      exact = starts c.skip_bom.new.cursor.rest _ c.args.self.now.control c.args.self.now.control refl c.requires.control c.skip_bom.ensures.accepts;
      ends = ends_at _ _ c.checkpoint-self.ensures.rest (ap (λ (p : Position). p.rest) c.copied-self.ensures ∙ c.checkpoint-self.ensures.rest) c.outset-self.ensures (new_matched c.args.self.now c.requires);
      accepted = c.requires.accepted;
    }

pub tokens-smaller : goal.tokens-smaller
tokens-smaller c = nearer c.tokens.cursor c.next.new.cursor c.in-Ok-Some.token (rw c.in-Ok-Some.field-0-is at c.in-Ok-Some.ensures.lexed)

pub tokens-preserved : goal.tokens-preserved
tokens-preserved c =
    let h = rw c.in-Ok-Some.field-0-is at c.in-Ok-Some.ensures.lexed in
    let f = front_goes_on c.args.cursor.now c.tokens.cursor c.next.new.cursor c.tokens.invariant.fronting c.next.ensures.moves (rw c.in-Ok-Some.field-0-is at c.in-Ok-Some.ensures.costs) in
    let o = rw c.if-not-is_taken.false at c.in_ok-is_taken.ensures.over in
    record {
      fronting = f;
      keeps = λ text e x. c.take.ensures.keeps text (c.tokens.invariant.keeps text e x) (token_lies text c.args.cursor.now c.tokens.cursor c.next.new.cursor c.in-Ok-Some.token c.tokens.invariant.fronting e h) (token_end_lies text c.args.cursor.now c.tokens.cursor c.next.new.cursor c.in-Ok-Some.token f e h);
      exact = over_token c.tokens.cursor c.next.new.cursor c.in-Ok-Some.token c.tokens.self c.take.new.self h (rw c.if-not-is_taken.false at c.in_ok-is_taken.ensures.took) c.tokens.invariant.exact;
      ends = ends_over c.tokens.cursor c.next.new.cursor c.in-Ok-Some.token c.tokens.self c.take.new.self h c.tokens.invariant.ends o;
      accepted = c.take.ensures.same ∙ c.tokens.invariant.accepted;
    }

pub returns-in_err-is_taken-clause-keeps : goal.returns-in_err-is_taken-clause-keeps
returns-in_err-is_taken-clause-keeps c text e x =
    let h = rw c.in-Ok-Some.field-0-is at c.in-Ok-Some.ensures.lexed in
    let f = front_goes_on c.args.cursor.now c.tokens.cursor c.next.new.cursor c.tokens.invariant.fronting c.next.ensures.moves (rw c.in-Ok-Some.field-0-is at c.in-Ok-Some.ensures.costs) in
    c.take.ensures.keeps text (c.tokens.invariant.keeps text e x) (token_lies text c.args.cursor.now c.tokens.cursor c.next.new.cursor c.in-Ok-Some.token c.tokens.invariant.fronting e h) (token_end_lies text c.args.cursor.now c.tokens.cursor c.next.new.cursor c.in-Ok-Some.token f e h)

pub returns-in_err-is_taken-clause-counts : goal.returns-in_err-is_taken-clause-counts
returns-in_err-is_taken-clause-counts c = front_counts c.args.cursor.now c.tokens.cursor c.next.new.cursor c.tokens.invariant.fronting c.next.ensures.moves

pub returns-then-not-is_taken-clause-keeps : goal.returns-then-not-is_taken-clause-keeps
returns-then-not-is_taken-clause-keeps c text e x =
    let h = rw c.in-Ok-Some.field-0-is at c.in-Ok-Some.ensures.lexed in
    let f = front_goes_on c.args.cursor.now c.tokens.cursor c.next.new.cursor c.tokens.invariant.fronting c.next.ensures.moves (rw c.in-Ok-Some.field-0-is at c.in-Ok-Some.ensures.costs) in
    c.take.ensures.keeps text (c.tokens.invariant.keeps text e x) (token_lies text c.args.cursor.now c.tokens.cursor c.next.new.cursor c.in-Ok-Some.token c.tokens.invariant.fronting e h) (token_end_lies text c.args.cursor.now c.tokens.cursor c.next.new.cursor c.in-Ok-Some.token f e h)

pub returns-then-not-is_taken-clause-most : goal.returns-then-not-is_taken-clause-most
returns-then-not-is_taken-clause-most c = front_ends c.args.cursor.now c.tokens.cursor c.next.new.cursor 0 c.tokens.invariant.fronting (rw c.in-Ok-Some.field-0-is at c.in-Ok-Some.ensures.costs) (omega arith)

pub returns-then-not-is_taken-clause-counts : goal.returns-then-not-is_taken-clause-counts
returns-then-not-is_taken-clause-counts c = front_counts c.args.cursor.now c.tokens.cursor c.next.new.cursor c.tokens.invariant.fronting c.next.ensures.moves

pub returns-in-Ok-None-clause-keeps : goal.returns-in-Ok-None-clause-keeps
returns-in-Ok-None-clause-keeps c text e x' =
    let x = c.tokens.invariant.keeps text e x' in
    record { notes = x.notes; place = x.place; from = x.from }

pub returns-in-Ok-None-clause-most : goal.returns-in-Ok-None-clause-most
returns-in-Ok-None-clause-most c = front_ends c.args.cursor.now c.tokens.cursor c.next.new.cursor 1 c.tokens.invariant.fronting (rw c.in-Ok-None.field-0-is at c.in-Ok-None.ensures.costs) (omega arith)

pub returns-in-Ok-None-clause-counts : goal.returns-in-Ok-None-clause-counts
returns-in-Ok-None-clause-counts c = front_counts c.args.cursor.now c.tokens.cursor c.next.new.cursor c.tokens.invariant.fronting c.next.ensures.moves

pub returns-in-Err-Faulty-clause-most : goal.returns-in-Err-Faulty-clause-most
returns-in-Err-Faulty-clause-most c = front_ends c.args.cursor.now c.tokens.cursor c.next.new.cursor 24 c.tokens.invariant.fronting (rw c.in-Err-Faulty.field-0-is at c.in-Err-Faulty.ensures.costs) (omega arith)

pub returns-in-Err-Faulty-clause-counts : goal.returns-in-Err-Faulty-clause-counts
returns-in-Err-Faulty-clause-counts c = front_counts c.args.cursor.now c.tokens.cursor c.next.new.cursor c.tokens.invariant.fronting c.next.ensures.moves

pub returns-in-Err-Memory-clause-counts : goal.returns-in-Err-Memory-clause-counts
returns-in-Err-Memory-clause-counts c = front_counts c.args.cursor.now c.tokens.cursor c.next.new.cursor c.tokens.invariant.fronting c.next.ensures.moves

pub returns-then-not-is_taken-clause-exact : goal.returns-then-not-is_taken-clause-exact
returns-then-not-is_taken-clause-exact c =
    let h = rw c.in-Ok-Some.field-0-is at c.in-Ok-Some.ensures.lexed in
    refused c.take.new.self.is_accepted c.tokens.cursor c.next.new.cursor c.in-Ok-Some.token (text_view c.tokens.self.control) h (rw c.if-not-is_taken.true at c.in_ok-is_taken.ensures.took) (c.take.ensures.same ∙ c.tokens.invariant.accepted) c.tokens.invariant.exact

pub returns-then-not-is_taken-clause-stopped : goal.returns-then-not-is_taken-clause-stopped
returns-then-not-is_taken-clause-stopped c x =
    let h = rw c.in-Ok-Some.field-0-is at c.in-Ok-Some.ensures.lexed in
    let o = rw c.if-not-is_taken.true at c.in_ok-is_taken.ensures.over in
    stopped_before c.tokens.cursor.rest c.tokens.self c.take.new.self c.tokens.invariant.ends (begun c.tokens.cursor c.next.new.cursor c.in-Ok-Some.token h) (ap (λ (p : Position). p.rest) o.0) (ap (λ (p : Position). p.rest) o.1)

pub returns-in-Ok-None-clause-exact : goal.returns-in-Ok-None-clause-exact
returns-in-Ok-None-clause-exact c = at_the_text_end c.may_end-self.result c.tokens.cursor (text_view c.tokens.self.control) (rw c.in-Ok-None.field-0-is at c.in-Ok-None.ensures.lexed) c.may_end-self.ensures c.tokens.invariant.exact

pub returns-in-Ok-None-clause-stopped : goal.returns-in-Ok-None-clause-stopped
returns-in-Ok-None-clause-stopped c x =
    let e = c.tokens.invariant.ends in
    stopped_at_end c.tokens.cursor.rest _ (record { place = e.place; from = e.from; matched = e.matched }) (sym c.may_end-self.ensures ∙ x)

pub returns-in-Err-Faulty-clause-exact : goal.returns-in-Err-Faulty-clause-exact
returns-in-Err-Faulty-clause-exact c = no_token_here c.tokens.self.is_accepted c.tokens.cursor (text_view c.tokens.self.control) (rw c.in-Err-Faulty.field-0-is at c.in-Err-Faulty.ensures.lexed) c.tokens.invariant.accepted c.tokens.invariant.exact

pub returns-in-Err-Faulty-clause-stopped : goal.returns-in-Err-Faulty-clause-stopped
returns-in-Err-Faulty-clause-stopped c x = stopped_before c.tokens.cursor.rest c.tokens.self c.tokens.self c.tokens.invariant.ends (rw c.in-Err-Faulty.field-0-is at c.in-Err-Faulty.ensures.lexed).begun refl refl
