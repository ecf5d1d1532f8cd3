use Rattle.std.proofs.Common.{ap, arith}
use Rattle.kdl_text.specs.Spans.{bytes}
use Rattle.kdl_text.proofs.Looking.MovesJoin.{moves_then, fewer_bytes}
use Rattle.kdl_text.proofs.Looking.Parts.{part_past}
use Rattle.kdl_text.proofs.Looking.Returns.{moves_returned}
use Rattle.kdl_diagnostics.proofs.Passing.{after_bytes, after_same, after_then, ends_in, if_lies, since_moves}
use Rattle.kdl_diagnostics.proofs.lexemes.faulty_string.Goals as goal

pub end_within-inside-requires : goal.end_within-inside-requires
end_within-inside-requires c =
    let f = c.requires.found in
    record { before = f.following; part = part_past _ _ f.before.0 _ c.requires.start.since.part f.before.1 }

pub new-lexeme-requires : goal.new-lexeme-requires
new-lexeme-requires c =
    let w = c.end_within-inside.ensures in
    let x = since_moves c.requires.start.since (moves_returned w.back) in
    let i = ends_in _ _ _ x.before c.value_end-end.ensures.end.ends in
    record {
      place = c.end_of_fault-end.ensures _ (after_then _ _ _ c.requires.found.before w.place) (after_same _ _ _ x.before c.checkpoint-after.ensures.rest) i.place;
      comment = i.comment;
    }

pub returns-clause-lexeme : goal.returns-clause-lexeme
returns-clause-lexeme c =
    let s = c.new-lexeme.ensures in
    let w = c.end_within-inside.ensures in
    record {
      stands = record { start = s.start; end = s.end; backslash = if_lies _ _ _ c.requires.found.before w.backslash; comment = s.comment };
      went = omega (arith, c.requires.start.went, ap bytes w.back.rest, fewer_bytes c.value_end-end.ensures.reads.moves);
    }

pub returns-clause-reads : goal.returns-clause-reads
returns-clause-reads c =
    let first = after_bytes _ _ c.requires.found.before in
    let last = after_bytes _ _ c.requires.found.following in
    let back = c.end_within-inside.ensures.back in
    let r = c.value_end-end.ensures.reads in
    record { moves = moves_then (moves_returned back) r.moves; most = omega (arith, first, last, back.most, ap bytes back.rest, r.most, fewer_bytes r.moves) }
