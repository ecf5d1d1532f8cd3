use Rattle.kdl_layout.proofs.Common.{◌≡◌, Bool, [], ◌∷◌, refl, chars, list_all, ◌==◌, end_on_line, Text}
use Rattle.kdl_layout.proofs.Rewriting.Pushing.{no_bytes}
use Rattle.kdl_layout.proofs.one_line.end_on_line.Goals as goal

-- a terminator
empty_end : (last : Bool) (t : Text) → t ≡ [] → last ≡ end_on_line last t
empty_end last [] e = refl
empty_end last (c ∷ t) e = absurd cc

some_end : (last : Bool) (t : Text) (r : Bool) → (t ≡ [] → ⊥) → r ≡ list_all (λ c. c == 59) t → r ≡ end_on_line last t
some_end last [] r f e = absurd (f refl)
some_end last (c ∷ t) r f e = e

pub returns-then-is_empty : goal.returns-then-is_empty
returns-then-is_empty c =
    empty_end (c.args.following == 0) (chars c.args.terminator.now) (rw c.if-is_empty.true at (no_bytes c.is_empty.result c.args.terminator.now c.utf8.terminator c.is_empty.ensures))

pub returns : goal.returns
returns c =
    some_end (c.args.following == 0) (chars c.args.terminator.now) c.is_semicolons.result
    (rw c.if-is_empty.false at (no_bytes c.is_empty.result c.args.terminator.now c.utf8.terminator c.is_empty.ensures)) c.is_semicolons.ensures
