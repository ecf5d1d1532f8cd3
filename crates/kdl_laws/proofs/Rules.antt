-- The lemmas that the functions of a file cite.
use Rattle.kdl_laws.proofs.Common.{float_decides, value_decides, value_ties, entry_decides, format_decides, identifier_decides, document_format_decides, node_format_decides, gap_items}
use Rattle.kdl_value.proofs.Comparing.OrderOnTrees.{float_ordered, float_ties, value_ordered, value_total}
use Rattle.kdl_value.proofs.Floating.DecimalTexts.{decimal_float}
use Rattle.kdl_value.proofs.Spelling.StringReadsBack.{spelled_alone, spelled_before}
use Rattle.kdl_layout.proofs.Keeping.InnerItems.{inside_has}
use Rattle.kdl_layout.proofs.Listing.PlaceTexts.{after_block_items, before_block_items, before_entry_items}
use Rattle.kdl_laws.proofs.Equality.{document_decides, node_decides}
use Rattle.kdl_laws.proofs.ErrorClones.{error_copy, failure_copy}
use Rattle.kdl_laws.proofs.ErrorEquality.{diagnostic_decides, error_decides, failure_decides, float_failure_decides, severity_decides, span_decides}
use Rattle.kdl_laws.proofs.ListExists.{in_document, in_node, laid_out, node_laid_out}
use Rattle.kdl_laws.proofs.PlaceItems.{document_items, terminator_items}

-- for src/values.rt
pub ruleset values = (float_decides, value_decides, float_ordered, float_ties, value_ordered, value_ties, value_total, decimal_float, spelled_alone, spelled_before)

-- for src/entries.rt
pub ruleset entries = (format_decides, identifier_decides, entry_decides)

-- for src/formats.rt
pub ruleset formats = (node_format_decides, document_format_decides)

-- for src/nodes.rt
pub ruleset nodes = (node_decides, document_decides)

-- for src/errors.rt
pub ruleset errors = (span_decides, severity_decides, float_failure_decides, diagnostic_decides, error_decides, failure_decides, error_copy, failure_copy)

-- for src/items.rt
pub ruleset items = (gap_items, before_block_items, after_block_items, before_entry_items, document_items, terminator_items, inside_has, in_document, in_node, laid_out, node_laid_out)
