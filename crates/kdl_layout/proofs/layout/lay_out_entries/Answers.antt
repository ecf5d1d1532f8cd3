use Rattle.kdl_layout.proofs.Common.{arith, map, subst, sym, ap, ◌∙◌, entry_tree, cleared, keeping, settings}
use Rattle.kdl_layout.proofs.Respelling.Leaves.{entry_stays}
use Rattle.kdl_layout.proofs.Formatting.EntriesRead.{Stays, all_stay, each_stays, flagged_stays, laid_stays}
use Rattle.kdl_layout.proofs.Loops.{LaidEntry, turned_start, turned_more, turned_all, turned_same, turned_exchanged, turned_each, turned_each_set, entries_laid, entries_fit}
use Rattle.kdl_layout.proofs.layout.lay_out_entries.Goals as goal
use Rattle.kdl_layout.proofs.Respelling.Entries.{flag_cleared}

pub loop-entry-init : goal.loop-entry-init
loop-entry-init c = turned_start entry_tree (LaidEntry (keeping c.args.layout.now) (settings c.args.layout.now.config)) c.deref_mut-entry-items.result.now

pub loop-entry-preserved : goal.loop-entry-preserved
loop-entry-preserved c =
    let l = c.loop-entry in
    turned_more entry_tree (LaidEntry (keeping c.args.layout.now) (settings c.args.layout.now.config)) l.entry-items l.entry-index c.lay_out_entry.new.entry c.entry-item.result _ (omega arith)
    (c.in_ok-lay_out_entry.ensures.formatted, c.lay_out_entry.ensures.well_formed) l.invariant

pub returns-in_err-lay_out_entry-clause-same : goal.returns-in_err-lay_out_entry-clause-same
returns-in_err-lay_out_entry-clause-same c =
    let l = c.loop-entry in
    let keep = keeping c.args.layout.now in
    let s = settings c.args.layout.now.config in
    turned_exchanged entry_tree (LaidEntry keep s) cleared (λ e e' k. entry_stays keep s e e' k.0) c.args.entries.now.len l.entry-index l.entry-items c.deref_mut-entry-items.result.now c.args.entries.now.items
    c.lay_out_entry.new.entry c.entry-item.result c.deref_mut-entry-items.ensures.value (omega arith) (omega arith) l.invariant (ap cleared c.in_err-lay_out_entry.ensures.flagged ∙ flag_cleared s.entry_autoformate_keep _)

pub returns-in_err-lay_out_entry-clause-reads : goal.returns-in_err-lay_out_entry-clause-reads
returns-in_err-lay_out_entry-clause-reads c k a =
    let l = c.loop-entry in
    let keep = keeping c.args.layout.now in
    let s = settings c.args.layout.now.config in
    each_stays s _
    (turned_each_set entry_tree (LaidEntry keep s) (Stays s) (λ e e' d h. laid_stays keep s e e' d.0 d.1 h) c.args.entries.now.len l.entry-index l.entry-items c.deref_mut-entry-items.result.now c.args.entries.now.items
    c.lay_out_entry.new.entry c.entry-item.result c.deref_mut-entry-items.ensures.value (omega arith) (omega arith) l.invariant
    (λ h. subst (Stays s) (sym c.in_err-lay_out_entry.ensures.flagged) (flagged_stays s _ h)) (all_stay s (map entry_tree c.args.entries.now.items) a k))

pub returns : goal.returns
returns c =
    let l = c.loop-entry in
    let keep = keeping c.args.layout.now in
    let s = settings c.args.layout.now.config in
    let old = c.args.entries.now in
    let here = c.deref_mut-entry-items.result.now in
    let all = turned_all entry_tree (LaidEntry keep s) old.len l.entry-index l.entry-items here old.items c.deref_mut-entry-items.ensures.value (omega arith) (omega arith) l.invariant in
    record {
      same = turned_same entry_tree (LaidEntry keep s) cleared (λ e e' k. entry_stays keep s e e' k.0) old.len l.entry-index l.entry-items here old.items c.deref_mut-entry-items.ensures.value (omega arith) l.invariant;
      reads = λ k a. each_stays s _
          (turned_each entry_tree (LaidEntry keep s) (Stays s) (λ e e' d h. laid_stays keep s e e' d.0 d.1 h) old.len l.entry-index l.entry-items here old.items
          c.deref_mut-entry-items.ensures.value (omega arith) l.invariant (all_stay s (map entry_tree old.items) a k));
      formatted = entries_laid keep s _ _ all;
      well_formed = entries_fit keep s _ _ all;
    }
