-- The lemmas that the functions of a file cite.
use Rattle.kdl.proofs.Finding.SaidLookups.{got_arg, got_args, got_argument, got_child_nodes, got_children, got_dash_args, got_entries, got_entry, got_name, got_node, got_nodes, got_property, got_property_value, got_type, got_value}
use Rattle.kdl.proofs.EditLaws.{insert_prints, refused_same}
use Rattle.kdl.proofs.Finding.EntriesFound.{insert_puts, insert_sets, push_adds, remove_takes, remove_takes_at}
use Rattle.kdl.proofs.PiecesExchanged.{insert_exchanges, push_exchanges, remove_exchanges}
use Rattle.kdl.proofs.ReadingBack.{clear_reads, new_block_reads, new_document_reads, remove_reads, sort_reads, spelled_new_ends, unspelled_new_ends}
use Rattle.kdl.proofs.SpanIsIgnored.{document_spanned, node_spanned}
use Rattle.kdl_parts.proofs.Utf8Parts.{writes}

-- for src/node.rt
pub ruleset node = (got_name, got_type, got_entries, got_children, node_spanned)

-- for src/document.rt
pub ruleset document = (got_nodes, document_spanned, writes)

-- for src/node/lookup.rt
pub ruleset node_lookup = (got_entry, got_value, got_property, got_argument, got_property_value)

-- for src/node/iter.rt
pub ruleset node_iter = (got_entries, got_child_nodes)

-- for src/document/lookup.rt
pub ruleset document_lookup = (got_node, got_arg)

-- for src/document/args.rt
pub ruleset document_args = (got_args, got_dash_args)

-- for the functions of these names
pub ruleset new_document = (new_document_reads, new_block_reads)

pub ruleset new_node = (unspelled_new_ends, spelled_new_ends)

-- for src/node/edit.rt
pub ruleset node_edit = (refused_same, push_adds, push_exchanges, insert_prints, insert_sets, insert_puts, insert_exchanges, remove_takes, remove_takes_at, remove_reads, remove_exchanges, clear_reads, sort_reads)
