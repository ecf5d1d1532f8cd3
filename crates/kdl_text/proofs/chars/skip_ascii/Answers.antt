use Rattle.std.proofs.Common.{subst}
use Rattle.kdl_text.specs.Internal.Tables.{InsideLen}
use Rattle.kdl_text.proofs.Looking.ClassTables.{ascii_boundary, ascii_run}
use Rattle.kdl_text.proofs.chars.skip_ascii.Goals as goal

pub range_from-requires : goal.range_from-requires
range_from-requires c =
    let found = subst (λ s. InsideLen c.table.result.now s c.inside_len-count.result) c.as_bytes.ensures.value c.inside_len-count.ensures in
    λ _. ascii_boundary _ _ _ _ c.table.ensures found (λ k. (c.type_inv.text k).fits) c.utf8.text

pub returns : goal.returns
returns c =
    let found = subst (λ s. InsideLen c.table.result.now s c.inside_len-count.result) c.as_bytes.ensures.value c.inside_len-count.ensures in
    ascii_run _ _ _ _ c.table.ensures found (λ k. (c.type_inv.text k).fits) c.utf8.text _ c.range_from.ensures.value
