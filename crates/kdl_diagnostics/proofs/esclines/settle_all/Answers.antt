use Rattle.std.proofs.Common.{ℕ, Some, arith}
use Rattle.kdl_text.specs.Internal.Here.{Here, Took}
use Rattle.kdl_text.proofs.Looking.MovesJoin.{moves_then, fewer_bytes}
use Rattle.kdl_diagnostics.specs.Internal.Reading.{GoesOn, Reads}
use Rattle.kdl_diagnostics.proofs.NotedSpans.{keeps_then}
use Rattle.kdl_diagnostics.proofs.Passing.{goes_took, reads_ate, reads_here, reads_looked, reads_then, reads_more}
use Rattle.kdl_diagnostics.proofs.esclines.settle_all.Goals as goal

turn : {c : ℕ} {a b e : Here} → Took (Some c) a b → Reads 1 2 b e → GoesOn 4 a e
turn t r = let g = goes_took t in record {
  reads = record { moves = moves_then g.reads.moves r.moves; most = omega (arith, g.reads.most, g.went, r.most, fewer_bytes r.moves) };
  went = omega (arith, g.went, fewer_bytes r.moves);
}

pub returns-in_default-clause-keeps : goal.returns-in_default-clause-keeps
returns-in_default-clause-keeps c = keeps_then c.characters.invariant.keeps c.settle.ensures

pub characters-preserved-then-is_space : goal.characters-preserved-then-is_space
characters-preserved-then-is_space c = record { keeps = c.characters.invariant.keeps; reads = reads_then c.characters.invariant.reads (turn c.in-Some.ensures.took (reads_more 2 (reads_here 1 _))).reads }

pub characters-preserved-then-index-at : goal.characters-preserved-then-index-at
characters-preserved-then-index-at c = record { keeps = c.characters.invariant.keeps; reads = reads_then c.characters.invariant.reads (turn c.in-Some.ensures.took (reads_more 2 (reads_here 1 _))).reads }

pub returns-in_err-push-in-47-clause-reads : goal.returns-in_err-push-in-47-clause-reads
returns-in_err-push-in-47-clause-reads c = reads_more 1 (reads_then c.characters.invariant.reads (turn c.in-Some.ensures.took (reads_more 1 (reads_ate _ _ _ _ c.eat.ensures))).reads)

pub characters-preserved-in_ok-push-in-47 : goal.characters-preserved-in_ok-push-in-47
characters-preserved-in_ok-push-in-47 c = record { keeps = c.characters.invariant.keeps; reads = reads_then c.characters.invariant.reads (turn c.in-Some.ensures.took (reads_more 1 (reads_ate _ _ _ _ c.eat.ensures))).reads }

pub characters-preserved-then-eq : goal.characters-preserved-then-eq
characters-preserved-then-eq c = record { keeps = keeps_then c.characters.invariant.keeps c.settle-then-eq.ensures; reads = reads_then c.characters.invariant.reads (turn c.in-Some.ensures.took (reads_then (reads_ate _ _ _ _ c.eat.ensures) (reads_looked 1 _ _ c.look.ensures.moved))).reads }

pub characters-preserved-else-eq : goal.characters-preserved-else-eq
characters-preserved-else-eq c = record { keeps = c.characters.invariant.keeps; reads = reads_then c.characters.invariant.reads (turn c.in-Some.ensures.took (reads_then (reads_ate _ _ _ _ c.eat.ensures) (reads_looked 1 _ _ c.look.ensures.moved))).reads }

pub characters-preserved-then-eat-2 : goal.characters-preserved-then-eat-2
characters-preserved-then-eat-2 c = record { keeps = c.characters.invariant.keeps; reads = reads_then c.characters.invariant.reads (turn c.in-Some.ensures.took (reads_more 1 (reads_ate _ _ _ _ c.eat-in-42.ensures))).reads }

pub characters-preserved-else-eat-2 : goal.characters-preserved-else-eat-2
characters-preserved-else-eat-2 c = record { keeps = c.characters.invariant.keeps; reads = reads_then c.characters.invariant.reads (turn c.in-Some.ensures.took (reads_more 1 (reads_ate _ _ _ _ c.eat-in-42.ensures))).reads }

pub characters-preserved-then-is_newline_char : goal.characters-preserved-then-is_newline_char
characters-preserved-then-is_newline_char c = record { keeps = keeps_then c.characters.invariant.keeps c.settle-in_default-c.ensures; reads = reads_then c.characters.invariant.reads (turn c.in-Some.ensures.took (reads_more 2 (reads_here 1 _))).reads }

pub characters-preserved : goal.characters-preserved
characters-preserved c = record { keeps = c.characters.invariant.keeps; reads = reads_then c.characters.invariant.reads (turn c.in-Some.ensures.took (reads_more 2 (reads_here 1 _))).reads }
