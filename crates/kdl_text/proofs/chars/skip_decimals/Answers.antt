use Rattle.std.proofs.Common.{subst}
use Rattle.kdl_text.specs.Internal.DigitRuns.{DecimalsLen}
use Rattle.kdl_text.proofs.Numeric.DigitRuns.{digits_boundary, digit_run}
use Rattle.kdl_text.proofs.chars.skip_decimals.Goals as goal

pub range_from-requires : goal.range_from-requires
range_from-requires c =
    let (n, v, m) = c.decimals_len-count.result in
    let found = subst (λ s. DecimalsLen s n v m) c.as_bytes.ensures.value c.decimals_len-count.ensures in
    λ _. digits_boundary _ _ _ _ found c.utf8.text

pub returns : goal.returns
returns c =
    let (n, v, m) = c.decimals_len-count.result in
    let found = subst (λ s. DecimalsLen s n v m) c.as_bytes.ensures.value c.decimals_len-count.ensures in
    digit_run _ _ _ _ found c.utf8.text _ c.range_from.ensures.value
