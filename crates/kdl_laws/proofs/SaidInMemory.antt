-- Names and arguments in memory, by what they say.
use Rattle.kdl_laws.proofs.Common.{◌≡◌, ℕ, List, IsUtf8, ap, chars, length, sym, ◌∙◌, KdlEntry, is_argument, same_text, entries_of, node_says, KdlNode, same_chars}
use Rattle.std.proofs.Common.{filter}
use Rattle.std.proofs.lemmas.List.{length-map}
use Rattle.std.proofs.lemmas.List.Sums.{length-filter}
use Rattle.std.specs.List.{count_by}
use Rattle.kdl.specs.Said.{said_arguments}
use Rattle.kdl.proofs.Finding.SaidLookups.{arguments_said}
use Rattle.kdl_value.specs.Tree.{value_tree}

pub texts_compared : (b s : List ℕ) → IsUtf8 b → IsUtf8 s → same_text b s ≡ same_text (chars b) (chars s)
texts_compared b s u v = (same_chars s v).same b u

pub arguments_counted : (n : KdlNode) → count_by is_argument (entries_of n) ≡ length (said_arguments (node_says n))
arguments_counted n =
    sym (length-filter is_argument (entries_of n)) ∙ sym (length-map (filter is_argument (entries_of n)) (λ (e : KdlEntry). value_tree e.value)) ∙ ap length (arguments_said n)
