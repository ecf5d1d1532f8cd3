use Rattle.std.proofs.Common.{◌≡◌, true, false, not, sym, ap, ◌∙◌, refl, inl, inr}
use Rattle.kdl_text.specs.Chars.{is_space, is_newline_char, is_banned, is_punctuation, is_identifier_char}
use Rattle.kdl_text.proofs.Numeric.NumberReads.{one_here}
use Rattle.kdl_text.proofs.numbers.is_end.Goals as goal

newline_ends : is_identifier_char 10 ≡ false
unfolding is_space is_newline_char is_banned is_punctuation is_identifier_char
newline_ends = refl

space_ends : is_identifier_char 32 ≡ false
unfolding is_space is_newline_char is_banned is_punctuation is_identifier_char
space_ends = refl

point_continues : is_identifier_char 46 ≡ true
unfolding is_space is_newline_char is_banned is_punctuation is_identifier_char
point_continues = refl

pub returns-in-Some-eq32-clause-result : goal.returns-in-Some-eq32-clause-result
returns-in-Some-eq32-clause-result c =
    let here = one_here is_identifier_char _ _ c.in-Some-eq32.ensures.result in
    elim c.in-Some-eq32.field-0-test [
      | inl e ↦ sym (ap not (here ∙ ap is_identifier_char e ∙ newline_ends))
      | inr e ↦ sym (ap not (here ∙ ap is_identifier_char e ∙ space_ends))
    ]

pub returns-in-Some-eq46-clause-result : goal.returns-in-Some-eq46-clause-result
returns-in-Some-eq46-clause-result c = sym (ap not (one_here is_identifier_char _ _ c.in-Some-eq46.ensures.result ∙ ap is_identifier_char c.in-Some-eq46.field-0-test ∙ point_continues))
