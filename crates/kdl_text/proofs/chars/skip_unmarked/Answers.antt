use Rattle.std.proofs.Common.{subst}
use Rattle.kdl_text.specs.Internal.Marks.{is_mark}
use Rattle.kdl_text.specs.Internal.Tables.{Until}
use Rattle.kdl_text.proofs.Looking.Marks.{mark_boundary, unmarked_run}
use Rattle.kdl_text.proofs.chars.skip_unmarked.Goals as goal

pub range_from-requires : goal.range_from-requires
range_from-requires c =
    let found = subst (λ s. Until (is_mark c.args.marks) s c.unmarked_len-count.result) c.as_bytes.ensures.value c.unmarked_len-count.ensures in
    λ _. mark_boundary c.args.marks _ _ found c.utf8.text

pub returns : goal.returns
returns c =
    let found = subst (λ s. Until (is_mark c.args.marks) s c.unmarked_len-count.result) c.as_bytes.ensures.value c.unmarked_len-count.ensures in
    unmarked_run c.args.marks _ _ found c.utf8.text _ c.range_from.ensures.value
