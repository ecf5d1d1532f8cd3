use Rattle.std.proofs.Common.{rules, subst, sym, arith}
use Rattle.std.proofs.lemmas.List.{length-set}
use Rattle.std.proofs.lemmas.List.Elements.{All-get_or, All-set}
use Rattle.kdl_text.specs.Spans.{InText}
use Rattle.kdl_diagnostics.specs.declared.esclines.Candidate.{Candidate}
use Rattle.kdl_diagnostics.specs.declared.notes.Fault.{Fault}
use Rattle.kdl_diagnostics.proofs.notes.Notes.settle.Goals as goal

pub returns-then-number-len : goal.returns-then-number-len
returns-then-number-len c = record {
  notes = λ text x u.
      (record {
        whole = x.whole;
        left = x.left;
        faults = All-set (λ (f : Fault). InText text f.span) c.args.self.now.faults.items c.index.result.now.number c.index.result.now.fault (subst (λ (k : Candidate). InText text k.fault.span) (sym c.index.ensures) (All-get_or (λ (k : Candidate). InText text k.fault.span) c.args.self.now.candidates.items c.in-Some.candidate _ (search rules) x.candidates)) x.faults;
        blocks = x.blocks;
        candidates = x.candidates;
      });
  grows = omega (arith, length-set c.args.self.now.faults.items c.index.result.now.number c.index.result.now.fault);
}
