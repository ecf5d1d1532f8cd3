use Rattle.std.proofs.Common.{rules, arith, ◌≡◌, ◌++◌, ◌∷◌, [], ℕ, List, Option, Bor, ap, codes, option_map, ◌∙◌, string_bytes}
use Rattle.std.proofs.lemmas.Str.Ascii.{encode_ascii}
use lib.Utf8.{encode}
use Rattle.json.specs.Print.{print}
use Rattle.json.specs.Token.{begin_object, end_object, key, string}
use Rattle.kdl_report.specs.Hints.{hint_at, hint_of}
use Rattle.kdl_report.specs.Object.{fault_tokens, place_members, text_member, word_members}
use Rattle.kdl_report.proofs.ObjectSteps.{and_part, and_token, nothing}
use Rattle.kdl_report.proofs.object.json.Goals as goal

pub returns : goal.returns
returns c =
    let first = c.new-out.result in
    let name = c.args.name.now in
    let t = c.args.lines.now in
    let fault = c.args.fault.now in
    let w1 = c.in_ok-begin_object.ensures in
    let w2 = c.in_ok-key.ensures in
    let w3 = c.in_ok-string.ensures in
    let w4 = c.in_ok-end_object.ensures in
    let places = place_members t fault in
    let words = word_members fault in
    let hint : Option (List ℕ) = option_map (λ (s : Bor (List ℕ)). s.now) c.hint_on.result in
    let a = and_token first first c.begin_object.new.self _ begin_object (nothing first) w1.room.0 w1.ok in
    let b = and_token first c.begin_object.new.self c.key.new.self _ (key (codes "file")) a w2.room.0 w2.ok in
    let d = and_token first c.key.new.self c.string.new.self _ (string name) b w3.room.0 w3.ok in
    let e = and_part first c.string.new.self c.put_place.new.out _ places d c.in_ok-put_place.ensures in
    let f = and_part first c.put_place.new.out c.put_words.new.out _ words e c.in_ok-put_words.ensures in
    let g = and_part first c.put_words.new.out c.put_optional.new.out _ (text_member (codes "hint") hint) f c.in_ok-put_optional.ensures in
    let h = and_token first c.put_optional.new.out c.end_object.new.self _ end_object g w4.room.0 w4.ok in
    let is : hint ≡ hint_of t fault = c.hint_on.ensures ∙ ap hint_at c.rest.ensures in
    let front = begin_object ∷ key (codes "file") ∷ string name ∷ [] in
    let tokens : c.end_object.new.self.tokens ≡ fault_tokens name t fault =
    h.tokens ∙ ap (λ l. l ++ (front ++ places ++ words ++ text_member (codes "hint") hint ++ end_object ∷ [])) c.new-out.ensures.tokens
    ∙ ap (λ o. front ++ places ++ words ++ text_member (codes "hint") o ++ end_object ∷ []) is in
    let before : c.end_object.new.self.before ≡ [] = h.before ∙ c.new-out.ensures.before ∙ c.new.ensures.items in
    let text : string_bytes c.unwrap-text.result ≡ c.into_inner.result.items = search rules in
    let items : c.into_inner.result.items ≡ print (fault_tokens name t fault) = c.into_inner.ensures.items ∙ ap (λ b. b ++ print c.end_object.new.self.tokens) before ∙ ap print tokens in
    c.in_ok-push.ensures.bytes ∙ ap (λ b. b ++ encode 10) (text ∙ items) ∙ ap (λ e. print (fault_tokens name t fault) ++ e) (encode_ascii 10 (omega arith))
