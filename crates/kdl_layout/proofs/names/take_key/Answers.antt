use Rattle.kdl_layout.proofs.Common.{◌≡◌, ◌∙◌, [], Option, Some, option_map, ap, List, ℕ, Identifier, entry_tree, identifier_tree, plain_identifier, KdlIdentifier, emptied, chars}
use Rattle.kdl_layout.proofs.names.take_key.Goals as goal

pub returns-in-Some-clause-left : goal.returns-in-Some-clause-left
unfolding chars
returns-in-Some-clause-left c =
    let i : identifier_tree c.replace.new.dest ≡ plain_identifier [] = ap identifier_tree c.replace.ensures.after ∙ c.from.ensures ∙ ap (λ (b : List ℕ). plain_identifier (chars b)) c.new.ensures.bytes in
    let o = ap (λ (z : Option KdlIdentifier). emptied (option_map identifier_tree z)) c.in-Some.ensures.value in
    ap (λ (z : Option Identifier). record (entry_tree c.args.entry.now) { name = z }) (ap Some i ∙ o)
