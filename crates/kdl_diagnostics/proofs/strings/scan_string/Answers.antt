use Rattle.std.proofs.Common.{◌≡◌, Bool, true, arith}
use Rattle.kdl_text.specs.Internal.Here.{Here, AteTwo, stepped}
use Rattle.kdl_text.specs.Internal.Reading.{Costs, Moves}
use Rattle.kdl_text.specs.Chars.{begins}
use Rattle.kdl_text.proofs.Looking.MovesJoin.{moves_then, fewer_bytes}
use Rattle.kdl_diagnostics.specs.Internal.Reading.{Reads}
use Rattle.kdl_diagnostics.proofs.Passing.{after_then, passed_here, reads_costs, reads_then, reads_two, reads_up, since_moves, stepped_begins}
use Rattle.kdl_diagnostics.proofs.StringLoops.{found_from, reads_back, reads_from}
use Rattle.kdl_diagnostics.proofs.strings.scan_string.Goals as goal

-- past the first quote, and maybe two more
opened : (a b e : Here) (r : Bool) → begins 34 a.rest ≡ true → b ≡ stepped a → AteTwo 34 34 r b e → Reads 0 2 a e
opened a b e r h s t = reads_then (stepped_begins 34 a b h s).reads (reads_two 34 34 r b e t)

-- and maybe a newline
lined : {a b e : Here} → Reads 0 2 a b → Moves b e → Costs 2 1 b e → Reads 5 3 a e
lined o m k = reads_then (reads_up 5 o) (reads_up 3 (reads_costs m k))

pub returns-then-not-eat_two-clause-fault : goal.returns-then-not-eat_two-clause-fault
returns-then-not-eat_two-clause-fault c = found_from c.requires.start (opened _ _ _ _ c.requires.quote c.step.ensures c.eat_two.ensures).moves c.units.ensures tt

pub returns-then-not-eat_two-clause-reads : goal.returns-then-not-eat_two-clause-reads
returns-then-not-eat_two-clause-reads c =
    reads_from c.requires.start (reads_then (reads_up 5 (opened _ _ _ _ c.requires.quote c.step.ensures c.eat_two.ensures)) c.units.ensures.reads) (omega arith)

pub returns-then-is_some-clause-fault : goal.returns-then-is_some-clause-fault
returns-then-is_some-clause-fault c =
    found_from c.requires.start (lined (opened _ _ _ _ c.requires.quote c.step.ensures c.eat_two.ensures) c.newline.ensures.moves c.newline.ensures.costs).moves c.units-found.ensures tt

pub returns-then-is_some-clause-reads : goal.returns-then-is_some-clause-reads
returns-then-is_some-clause-reads c =
    reads_from c.requires.start (reads_then (lined (opened _ _ _ _ c.requires.quote c.step.ensures c.eat_two.ensures) c.newline.ensures.moves c.newline.ensures.costs) c.units-found.ensures.reads) (omega arith)

pub fault_of_lines-requires : goal.fault_of_lines-requires
fault_of_lines-requires c =
    since_moves c.requires.start (reads_then (lined (opened _ _ _ _ c.requires.quote c.step.ensures c.eat_two.ensures) c.newline.ensures.moves c.newline.ensures.costs) c.units-found.ensures.reads).moves

pub returns-then-newline-clause-reads : goal.returns-then-newline-clause-reads
returns-then-newline-clause-reads c =
    reads_back c.requires.start (reads_then (lined (opened _ _ _ _ c.requires.quote c.step.ensures c.eat_two.ensures) c.newline.ensures.moves c.newline.ensures.costs) c.units-found.ensures.reads) c.fault_of_lines.ensures.back

pub returns-then-signs-gt0-clause-fault : goal.returns-then-signs-gt0-clause-fault
returns-then-signs-gt0-clause-fault c =
    found_from c.requires.start (lined (opened _ _ _ _ c.requires.quote c.step.ensures c.eat_two.ensures) c.newline.ensures.moves c.newline.ensures.costs).moves c.raw_quotes.ensures tt

pub returns-then-signs-gt0-clause-reads : goal.returns-then-signs-gt0-clause-reads
returns-then-signs-gt0-clause-reads c =
    reads_from c.requires.start (reads_then (lined (opened _ _ _ _ c.requires.quote c.step.ensures c.eat_two.ensures) c.newline.ensures.moves c.newline.ensures.costs) c.raw_quotes.ensures.reads) (omega arith)

pub returns-clause-fault : goal.returns-clause-fault
returns-clause-fault c =
    let o = opened _ _ _ _ c.requires.quote c.step.ensures c.eat_two.ensures in
    let there = passed_here c.checkpoint-place.ensures.rest (after_then _ _ _ c.requires.start.before o.moves.piece) c.newline.ensures.moves in
    found_from c.requires.start (moves_then o.moves c.newline.ensures.moves) c.units-2.ensures (c.earlier-opening.ensures _ _ tt there)

pub returns-clause-reads : goal.returns-clause-reads
returns-clause-reads c =
    reads_from c.requires.start (reads_then (lined (opened _ _ _ _ c.requires.quote c.step.ensures c.eat_two.ensures) c.newline.ensures.moves c.newline.ensures.costs) c.units-2.ensures.reads) (omega arith)

pub returns-clause-went : goal.returns-clause-went
returns-clause-went c =
    let s = stepped_begins _ c.args.cursor.now c.step.new.self c.requires.quote c.step.ensures in
    let two : Reads 0 2 c.step.new.self c.eat_two.new.self = reads_two _ _ _ _ _ c.eat_two.ensures in
    omega (arith, s.went, fewer_bytes two.moves, fewer_bytes c.newline.ensures.moves, fewer_bytes c.units-2.ensures.reads.moves)
