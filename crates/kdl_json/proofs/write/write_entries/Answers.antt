-- Entries that are written one after another.
use Rattle.std.proofs.Common.{rules, ◌∙◌}
use Rattle.kdl_json.proofs.Entries.{listed_all, listed_more, listed_none}
use Rattle.kdl_json.proofs.write.write_entries.Goals as goal

pub loop-entry-init : goal.loop-entry-init
loop-entry-init c = listed_none c.args.out.now c.args.entries.now

pub loop-entry-preserved : goal.loop-entry-preserved
loop-entry-preserved c =
    let l = c.loop-entry in
    let w = c.in_ok-write_entry.ensures in
    listed_more c.args.out.now l.out c.write_entry.new.out c.args.entries.now l.entry-index c.entry-item.result c.loop-entry-test.true c.entry-item.is l.invariant w.written.before w.written.tokens w.fit

pub returns-in_err-write_entry-clause-written : goal.returns-in_err-write_entry-clause-written
returns-in_err-write_entry-clause-written c = record { before = c.write_entry.ensures.written.before ∙ c.loop-entry.invariant.written.before; tokens = search rules }

pub returns-clause-written : goal.returns-clause-written
returns-clause-written c =
    let l = c.loop-entry in
    let a = (listed_all c.args.out.now l.out c.args.entries.now l.entry-index (search rules) l.invariant).0 in
    record { before = a.before; tokens = a.tokens }

pub returns-clause-fit : goal.returns-clause-fit
returns-clause-fit c = let l = c.loop-entry in (listed_all c.args.out.now l.out c.args.entries.now l.entry-index (search rules) l.invariant).1
