-- What holds of a result, and so of one that follows from it.
use Rattle.std.proofs.Common.{Result, Option, None, Some, option_map, ◌≡◌, refl}
use Rattle.std.specs.Prelude.{Ok, Err, OnOk}

pub mapped_twice : {A B C : Type 0} (f : A → B) (g : B → C) (o : Option A) → option_map g (option_map f o) ≡ option_map (λ x. g (f x)) o
mapped_twice f g None = refl
mapped_twice f g (Some x) = refl

pub on_ok : {T E : Type 0} {P : Type 0} (r : Result T E) → P → OnOk r P
on_ok (Ok v) h = h
on_ok (Err e) h = tt
