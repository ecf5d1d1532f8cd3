use Rattle.std.proofs.Common.{Some, None, length, ap, arith}
use Rattle.kdl_diagnostics.proofs.FrontEnds.{pushed, untold_less}
use Rattle.kdl_diagnostics.proofs.NotedSpans.{noted_more, noted_same, opened_less}
use Rattle.kdl_diagnostics.proofs.notes.Notes.note_blocks.Goals as goal

pub unclosed-preserved-in-Continue-1 : goal.unclosed-preserved-in-Continue-1
unclosed-preserved-in-Continue-1 c =
    let k = c.unclosed.invariant.keeps in
    record {
      keeps = record {
        notes = λ text x u.
            (let y = k.notes text x u in
            let z = opened_less text c.unclosed.self.blocks.items c.pop.new.self.items (Some c.in-Some.block) c.in-Some.ensures.items y.blocks in
            record { whole = y.whole; left = y.left; faults = noted_more text c.unclosed.self.faults.items c.push.new.self.items _ c.in_ok-push.ensures.items y.faults (rw c.in-Some-block.is at z.1); blocks = z.0; candidates = y.candidates });
        grows = omega (arith, k.grows, pushed _ _ _ c.in_ok-push.ensures.items);
      };
      untold = λ u. (untold_less c.unclosed.self.blocks.items c.pop.new.self.items (Some c.in-Some.block) c.in-Some.ensures.items (c.unclosed.invariant.untold u)).0;
      noted = λ u h. omega (arith, pushed _ _ _ c.in_ok-push.ensures.items);
    }

pub unclosed-preserved : goal.unclosed-preserved
unclosed-preserved c =
    let k = c.unclosed.invariant.keeps in
    record {
      keeps = record {
        notes = λ text x u.
            (let y = k.notes text x u in
            let z = opened_less text c.unclosed.self.blocks.items c.pop.new.self.items (Some c.in-Some.block) c.in-Some.ensures.items y.blocks in
            record { whole = y.whole; left = y.left; faults = y.faults; blocks = z.0; candidates = y.candidates });
        grows = k.grows;
      };
      untold = λ u. (untold_less c.unclosed.self.blocks.items c.pop.new.self.items (Some c.in-Some.block) c.in-Some.ensures.items (c.unclosed.invariant.untold u)).0;
      noted = λ u h. absurd (let some = rw c.in_default-block.is at (untold_less c.unclosed.self.blocks.items c.pop.new.self.items (Some c.in-Some.block) c.in-Some.ensures.items (c.unclosed.invariant.untold u)).1 in cc);
    }

pub returns-in_err-push-clause-keeps : goal.returns-in_err-push-clause-keeps
returns-in_err-push-clause-keeps c =
    let k = c.unclosed.invariant.keeps in
    record {
      notes = λ text x u.
          (let y = k.notes text x u in
          let z = opened_less text c.unclosed.self.blocks.items c.pop.new.self.items (Some c.in-Some.block) c.in-Some.ensures.items y.blocks in
          record { whole = y.whole; left = y.left; faults = noted_same text c.unclosed.self.faults.items c.push.new.self.items c.in_err-push.ensures.items y.faults; blocks = z.0; candidates = y.candidates });
      grows = omega (arith, k.grows, ap length c.in_err-push.ensures.items);
    }

pub returns-clause-keeps : goal.returns-clause-keeps
returns-clause-keeps c =
    let k = c.unclosed.invariant.keeps in
    record {
      notes = λ text x u.
          (let y = k.notes text x u in
          let z = opened_less text c.unclosed.self.blocks.items c.pop.new.self.items None c.in_default.ensures.items y.blocks in
          record { whole = y.whole; left = y.left; faults = y.faults; blocks = z.0; candidates = y.candidates });
      grows = k.grows;
    }
