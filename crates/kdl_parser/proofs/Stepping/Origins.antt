-- Where the place under way begins, after an item or as before.
use Rattle.std.proofs.Common.{◌≡◌, [], Option, Some, None, sym, subst}
use Rattle.kdl_text.specs.Chars.{Text}
use Rattle.kdl_entry.specs.Places.{between}
use Rattle.kdl_entry.proofs.Slicing.Between.{between_is}
use Rattle.kdl_grammar.specs.Internal.Machine.{origin}
use Rattle.kdl_parser.specs.Internal.Building.{EndsIn}

pub between_none : (s : Text) → between s s ≡ []
between_none s = between_is [] s

-- the place after the item, or the one before, begins before s
pub origin_ends : {A : Type 0} (o : Option A) (from here s : Text) → here ≡ origin o from s → EndsIn from s → EndsIn here s
origin_ends None from here s e p = subst (λ (z : Text). EndsIn z s) (sym e) p
origin_ends (Some x) from here s e p = ([], e)
