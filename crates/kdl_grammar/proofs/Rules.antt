-- The lemmas that the functions of a file cite.
use Rattle.kdl_grammar.proofs.GoingOn.{alive, alive_in_token, derived_at_end, refused_at_piece}
use Rattle.kdl_grammar.proofs.LawProofs.{answers_are_laid, answers_documents, former_is_kept, is_lexed, laid_is_derived, laid_node_is_derived, nodes_are_laid, one_answer, one_document, one_node}
use Rattle.kdl_grammar.proofs.Laying.FormedPrints.{edited_is_laid, reads_back}
use Rattle.kdl_grammar.proofs.NodeTexts.{node_alive}
use Rattle.kdl_grammar.proofs.Reading.Complete.OneLaid.{one_laid_document, one_laid_node}

-- for src/laws.rt
pub ruleset laws = (one_document, one_node, one_laid_document, one_laid_node, laid_is_derived, laid_node_is_derived, nodes_are_laid, former_is_kept, reads_back, edited_is_laid)

-- for src/laws/machine.rt
pub ruleset machine = (is_lexed, one_answer, answers_documents, answers_are_laid)

-- for src/laws/going_on.rt
pub ruleset going_on = (alive, alive_in_token, refused_at_piece, derived_at_end, node_alive)
