use Rattle.std.proofs.Common.{rules, ◌≡◌, length}
use mathlib.Core.Path.{subst}
use Rattle.kdl.specs.Words.{entry_data, entry_tree, node_says}
use Rattle.c_calls.specs.Flat.{RowsSay, entry_item}
use Rattle.c_calls.proofs.FlatSteps.{entries_all, entries_more, said_more}
use Rattle.c_calls.proofs.RowSteps.{pushed}
use Rattle.c_calls.proofs.tree.put_node_rows.Goals as goal

pub loop-entry-init : goal.loop-entry-init
loop-entry-init c =
    let n = c.put_node in
    let r = c.put_row in
    let ss : length n.new.strings ≡ length c.args.strings.now = search rules in
    let rs : length r.new.rows ≡ length c.args.rows.now = search rules in
    record {
      within = λ old. pushed c.args.rows.now r.new.rows c.args.count.now r.new.count n.result c.args.strings.now n.new.strings c.args.used.now n.new.used
          old ss n.ensures.more n.ensures.within rs r.ensures.counted r.ensures.written;
      says = λ items old. said_more c.args.rows.now r.new.rows c.args.count.now r.new.count n.result c.args.strings.now n.new.strings c.args.used.now n.new.used items _
          old ss n.ensures.more n.ensures.grown n.ensures.says rs r.ensures.counted r.ensures.written;
    }

pub loop-entry-preserved : goal.loop-entry-preserved
loop-entry-preserved c =
    let l = c.loop-entry in
    let e = c.put_entry in
    let ok = c.in_ok-put_entry in
    let r = c.put_row-in-loop-entry in
    let ss : length e.new.strings ≡ length l.strings = search rules in
    let rs : length r.new.rows ≡ length l.rows = search rules in
    record {
      within = λ old. pushed l.rows r.new.rows l.count r.new.count ok.field-0 l.strings e.new.strings l.used e.new.used
          (l.invariant.within old) ss e.ensures.more ok.ensures.within rs r.ensures.counted r.ensures.written;
      says = λ items old. subst (RowsSay r.new.rows r.new.count e.new.strings e.new.used)
          (entries_more items (node_says c.args.node.now) (λ x. entry_data (entry_tree x)) c.entries-entries.result.now l.entry-index c.entry-item.result c.loop-entry-test.true c.entry-item.is)
          (said_more l.rows r.new.rows l.count r.new.count ok.field-0 l.strings e.new.strings l.used e.new.used _ (entry_item (entry_data (entry_tree c.entry-item.result)))
          (l.invariant.says items old) ss e.ensures.more e.ensures.grown ok.ensures.says rs r.ensures.counted r.ensures.written);
    }

pub returns-clause-says : goal.returns-clause-says
returns-clause-says c = λ items old.
    let l = c.loop-entry in
    subst (RowsSay l.rows l.count l.strings l.used)
    (entries_all items (node_says c.args.node.now) (λ x. entry_data (entry_tree x)) c.entries-entries.result.now l.entry-index (search rules) c.entries-entries.ensures.said)
    (l.invariant.says items old)
