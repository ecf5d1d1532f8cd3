use Rattle.std.proofs.Common.{ap, refl}
use Rattle.kdl_text.specs.Internal.Here.{Position}
use Rattle.kdl_syntax.specs.Internal.Handed.{kind_view}
use Rattle.kdl_diagnostics.specs.Internal.Outsets.{text_view}
use Rattle.kdl_diagnostics.proofs.FrontEnds.{ends_at, ends_word, matched}
use Rattle.kdl_diagnostics.proofs.NotedSpans.{same_lies}
use Rattle.kdl_diagnostics.proofs.front.Prefix.take.Goals as goal

pub returns-in_err-note_token-clause-keeps : goal.returns-in_err-note_token-clause-keeps
returns-in_err-note_token-clause-keeps c text x u v = record { notes = c.note_token.ensures.keeps.notes text x.notes (u, v); place = x.place; from = x.from }

pub returns-in-String-clause-keeps : goal.returns-in-String-clause-keeps
returns-in-String-clause-keeps c text x u v = record {
  notes = c.note_token.ensures.keeps.notes text x.notes (u, v);
  place = same_lies text _ _ c.copied-self.ensures v;
  from = same_lies text _ _ c.copied-self-in-String.ensures u;
}

pub returns-in-String-clause-over : goal.returns-in-String-clause-over
returns-in-String-clause-over c n m =
    let b = c.in_ok-note_token.ensures.blocks m.1 in
    let e = rw c.if-not-branch.false at c.in_ok-take.ensures in
    let d = matched (kind_view c.args.token.now.kind) (text_view c.args.self.now.control) (text_view c.take.new.self) _ _ e m.0 b.0 in
    ends_word c.args.token.now _ c.copied-self.ensures c.copied-self-in-String.ensures n (d, b.1)

pub returns-in_default-kind : goal.returns-in_default-kind
returns-in_default-kind c =
    let e = rw c.if-not-branch.false at c.in_ok-take.ensures in
    record {
      keeps = λ text x u v. record {
        notes = c.note_token.ensures.keeps.notes text x.notes (u, v);
        place = same_lies text _ _ c.copied-self.ensures v;
        from = same_lies text _ _ c.copied-self-in_default-kind.ensures v;
      };
      took = e;
      over = λ n m.
          (let b = c.in_ok-note_token.ensures.blocks m.1 in
          let d = matched (kind_view c.args.token.now.kind) (text_view c.args.self.now.control) (text_view c.take.new.self) _ _ e m.0 b.0 in
          ends_at _ _ (ap (λ (p : Position). p.rest) c.copied-self.ensures) (ap (λ (p : Position). p.rest) c.copied-self-in_default-kind.ensures) c.outset-self.ensures (d, b.1));
      same = refl;
    }
