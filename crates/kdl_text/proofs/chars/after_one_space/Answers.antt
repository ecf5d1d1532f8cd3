use Rattle.std.proofs.Common.{[], ◌∷◌, refl, sym, ap, ◌∙◌, arith}
use Rattle.std.specs.Char.{len_utf8}
use Rattle.std.specs.Str.{chars}
use Rattle.kdl_text.specs.Chars.{is_space}
use Rattle.kdl_text.proofs.chars.after_one_space.Goals as goal

pub returns-in-Some : goal.returns-in-Some
unfolding is_space
returns-in-Some c =
    let (e, l) = c.in-Some.ensures.parts in
    record {
      run = 32 ∷ [];
      text = e ∙ ap (λ z. z ∷ chars c.in-Some.rest.now) c.if-c-eq32.true;
      all = refl;
      stops = sym c.begins_space.ensures ∙ c.if-not-begins_space.true;
      len = omega (arith, l, ap len_utf8 c.if-c-eq32.true);
      count_is = refl;
    }
