use Rattle.std.proofs.Common.{refl, ap, sym, subst, arith}
use Rattle.kdl_text.specs.Chars.{Text}
use Rattle.kdl_diagnostics.specs.Internal.Noted.{IsFrontOf, ReadsIn}
use Rattle.kdl_diagnostics.proofs.FrontEnds.{ready}
use Rattle.kdl_diagnostics.proofs.reader.Reader.new.Goals as goal

pub begin-state-requires : goal.begin-state-requires
begin-state-requires c = subst (λ (t : Text). IsFrontOf t c.args.front) (sym (ap (λ z. z.text) c.new-cursor.ensures)) c.requires

pub returns-clause-reads : goal.returns-clause-reads
returns-clause-reads c = record {
  here = subst (λ (t : Text). ReadsIn t c.begin-state.new.cursor) (ap (λ z. z.text) c.new-cursor.ensures) c.begin-state.ensures.here;
  notes = c.requires.notes;
}

pub returns-clause-ready : goal.returns-clause-ready
returns-clause-ready c s = ready c.args.front c.begin-state.result _ s c.begin-state.ensures.begins refl refl refl refl refl

pub returns-clause-counted : goal.returns-clause-counted
returns-clause-counted c =
    let k = c.begin-state.ensures.counted in
    record { most = omega (arith, k.most, ap (λ z. z.steps) c.new-cursor.ensures); counts = omega (arith, k.counts, ap (λ z. z.steps) c.new-cursor.ensures) }
