use Rattle.kdl_layout.proofs.Common.{◌≡◌, ◌↔◌, Bool, true, false, [], refl, then_some, IsTrue, Text, Cuts}
use Rattle.kdl_syntax.specs.Tokens as tokens
use Rattle.kdl_layout.specs.Internal.Whole.{Spelled}
use Rattle.kdl_layout.specs.declared.spelling.WholeText.TheVariants.{Word}
use Rattle.kdl_layout.proofs.Respelling.Spellings.{cut_spelling, cut_string, next_other, next_word, no_end, spaces_spell}
use Rattle.kdl_layout.proofs.spelling.of_next.Goals as goal

-- a bare string, if the text ends after it
word_ends : (b : Bool) (s r w : Text) → Cuts s (tokens.string w) r → IsTrue b ↔ (r ≡ []) → Spelled s (then_some b (Word w))
word_ends true s r w k h = cut_string s r w k (h.0 refl)
word_ends false s r w k h = λ v d. no_end false (r ≡ []) refl h.1 (cut_spelling k d).0

pub returns-in-Word : goal.returns-in-Word
returns-in-Word c = λ s old new e h.
    rw c.then_some.ensures (word_ends c.is_end.result s c.in-Word.at.end.rest c.in-Word.word (next_word s old new c.in-Word.word c.in-Word.at e (rw c.in-Word.is at h)) c.is_end.ensures)

pub returns-in-Other : goal.returns-in-Other
returns-in-Other c = λ s old new e h. c.of_token.ensures s (next_other s old new c.in-Other.token e (rw c.in-Other.is at h))

pub returns-in_default : goal.returns-in_default
returns-in_default c = λ s old new e h. spaces_spell s old new c.args.next e h c.in_default.not-Word c.in_default.not-Other
