use Rattle.kdl_layout.proofs.Common.{◌++◌, sym, ap, ◌∙◌, arith, Text, text_of}
use Rattle.std.proofs.lemmas.Str.Pattern.{strip_suffix_char}
use Rattle.kdl_layout.proofs.Rewriting.Pushing.{if_ok, one_char, two, line_shorter, line_same}
use Rattle.kdl_layout.proofs.written.push_line_text.Goals as goal

pub returns-in_ok-push_text-in-Some : goal.returns-in_ok-push_text-in-Some
returns-in_ok-push_text-in-Some c =
    let cut = rw c.in-Some.is at (strip_suffix_char 13 c.args.text.now c.strip_suffix.result c.strip_suffix.ensures.cases (omega arith)) in
    if_ok c.push_text-in-Some.result
    (λ e. two _ _ _ _ _ (e ∙ ap (λ (t : Text). text_of c.push_text.new.out ++ t) (one_char 10 (omega arith))) c.in_ok-push_text-in-Some.ensures
    ∙ ap (λ (t : Text). text_of c.args.out.now ++ t) (sym (line_shorter c.args.text.now c.in-Some.line.now c.utf8.text c.in-Some.ensures.cases cut)))
    c.push_text-in-Some.ensures

pub returns-in-None : goal.returns-in-None
returns-in-None c =
    if_ok c.push_text-in-None.result (λ e. e ∙ ap (λ (t : Text). text_of c.args.out.now ++ t) (sym (line_same c.args.text.now c.utf8.text c.in-None.ensures.cases))) c.push_text-in-None.ensures
