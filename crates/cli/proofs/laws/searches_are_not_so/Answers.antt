use Rattle.std.proofs.Common.{true}
use Rattle.kdl.specs.Words.{document_tree}
use Rattle.cli.proofs.SearchLaws.{found_where_none_selected, shown_where_selected}
use Rattle.cli.proofs.laws.searches_are_not_so.Goals as goal

pub returns-clause-shown : goal.returns-clause-shown
returns-clause-shown c = shown_where_selected (λ t d l. (c.laid_is_derived.ensures true t (document_tree d) l).0) (λ t x y i j. c.unambiguous.ensures true t x y i j)

pub returns-clause-found : goal.returns-clause-found
returns-clause-found c = found_where_none_selected (λ t d l. (c.laid_is_derived.ensures true t (document_tree d) l).0) (λ t x y i j. c.unambiguous.ensures true t x y i j)
