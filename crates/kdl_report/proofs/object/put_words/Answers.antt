use Rattle.std.proofs.Common.{◌≡◌, ℕ, List, Option, Bor, ◌++◌, ◌∷◌, [], Some, ap, codes, option_map, string_bytes, sym, ◌∙◌}
use Rattle.std.proofs.lemmas.Str.{encodes-chars}
use Rattle.std.specs.Str.{encode_utf8_all}
use Rattle.json.specs.Token.{key, string}
use Rattle.kdl_report.specs.Object.{text_member, word_members}
use Rattle.kdl_report.specs.Said.{word_of}
use Rattle.kdl_report.proofs.ObjectSteps.{and_part, and_token, last_part, nothing}
use Rattle.kdl_report.proofs.object.put_words.Goals as goal

pub returns : goal.returns
returns c =
    let out = c.args.out.now in
    let fault = c.args.fault.now in
    let w1 = c.in_ok-key.ensures in
    let w2 = c.in_ok-string.ensures in
    let word = c.word_of.result.now in
    let message = λ (o : Option (List ℕ)). text_member (codes "message") o in
    let label = λ (o : Option (List ℕ)). text_member (codes "label") o in
    let help = λ (o : Option (List ℕ)). text_member (codes "help") o in
    let front = key (codes "severity") ∷ string word ∷ [] in
    let rest = message (option_map string_bytes fault.message) ++ label (option_map string_bytes fault.label) ++ help (option_map string_bytes fault.help) in
    let a = and_token out out c.key.new.self _ (key (codes "severity")) (nothing out) w1.room.0 w1.ok in
    let b = and_token out c.key.new.self c.string.new.self _ (string word) a w2.room.0 w2.ok in
    let d = and_part out c.string.new.self c.put_optional.new.out _ (message (option_map (λ (s : Bor (List ℕ)). s.now) c.optional.result)) b c.in_ok-put_optional.ensures in
    let e = and_part out c.put_optional.new.out c.put_optional-2.new.out _ (label (option_map (λ (s : Bor (List ℕ)). s.now) c.optional-2.result)) d c.in_ok-put_optional-2.ensures in
    let said : word ≡ encode_utf8_all (word_of fault.severity) = sym (encodes-chars word c.word_of.utf8) ∙ ap encode_utf8_all c.word_of.ensures in
    last_part c.put_optional-3.result out c.put_optional-2.new.out c.put_optional-3.new.out _ (help (option_map (λ (s : Bor (List ℕ)). s.now) c.optional-3.result)) (word_members fault) e c.put_optional-3.ensures
    (ap (λ o. front ++ message o ++ label (option_map (λ (s : Bor (List ℕ)). s.now) c.optional-2.result) ++ help (option_map (λ (s : Bor (List ℕ)). s.now) c.optional-3.result)) c.optional.ensures.bytes
    ∙ ap (λ o. front ++ message (option_map string_bytes fault.message) ++ label o ++ help (option_map (λ (s : Bor (List ℕ)). s.now) c.optional-3.result)) c.optional-2.ensures.bytes
    ∙ ap (λ o. front ++ message (option_map string_bytes fault.message) ++ label (option_map string_bytes fault.label) ++ help o) c.optional-3.ensures.bytes
    ∙ ap (λ s. text_member (codes "severity") (Some s) ++ rest) said)
