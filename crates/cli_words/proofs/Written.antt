-- The script and the manual page are on the words of the program.
use Rattle.std.proofs.Common.{◌≡◌, [], Err, Global, IfOk, List, Ok, Result, String, string_bytes, ℕ}
use Rattle.std.specs.declared.alloc.AllocError.{AllocError}
use Rattle.cli_words.specs.Template.{IsManual, IsOnWords, IsScript, IsTemplate, written}
use Rattle.cli_words.specs.Words.{AreWords}
use Rattle.cli_words.specs.declared.completions.Shell.{Shell}
use Rattle.cli_words.specs.declared.completions.Shell.TheVariants.{Bash, Fish, Zsh}
use Rattle.cli_words.specs.declared.template.Template.{Template}
use Rattle.cli_words.specs.declared.words.Word.{Word}

pub on_words : (title : List ℕ) (t : Template) (r : Result (String Global) AllocError) (ws : List Word) → IsTemplate title t → AreWords ws
    → IfOk r (λ s. string_bytes s ≡ written t ws) → IfOk r (λ s. IsOnWords title (string_bytes s))
on_words title t (Ok s) ws is are e = (t, ws, is, are, e)
on_words title t (Err e) ws is are r = r

-- they are not empty
pub some_script : (shell : Shell) → IsScript shell [] → ⊥
unfolding written
some_script Bash (t, ws, is, are, e) = absurd cc
some_script Fish (t, ws, is, are, e) = absurd cc
some_script Zsh (t, ws, is, are, e) = absurd cc

pub some_page : IsManual [] → ⊥
unfolding written
some_page (t, ws, is, are, e) = absurd cc
