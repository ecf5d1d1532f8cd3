use Rattle.kdl.proofs.Common.{◌∙◌}
use Rattle.kdl_value.proofs.Spelling.PrintedTexts.{printed_len}
use Rattle.kdl.proofs.document.KdlDocument.len.Goals as goal

pub returns : goal.returns
returns c = c.len.ensures ∙ printed_len c.in_ok-to_string.field-0 _ c.in_ok-to_string.ensures.ok
