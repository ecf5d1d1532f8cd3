use Rattle.std.proofs.Common.{[], ◌∷◌, ◌∙◌, ap, sym, arith, codes, string_bytes}
use Rattle.tool.proofs.Commands.{alone, same_word, two}
use Rattle.tool.proofs.command_of.Goals as goal

pub returns-then-eq : goal.returns-then-eq
returns-then-eq c =
    alone string_bytes c.args.words.now c.word-item.result (omega arith) (omega arith) c.word-item.is
    ∙ ap (λ w. w ∷ []) (sym c.as_str.ensures.value ∙ same_word _ _ c.eq.result c.eq.ensures c.if-eq.true)

pub returns-then-eq-2 : goal.returns-then-eq-2
returns-then-eq-2 c =
    alone string_bytes c.args.words.now c.word-item.result (omega arith) (omega arith) c.word-item.is
    ∙ ap (λ w. w ∷ []) (sym c.as_str-else-eq.ensures.value ∙ same_word _ _ c.eq-else-eq.result c.eq-else-eq.ensures c.if-eq-2.true)

pub returns-then-eq-3 : goal.returns-then-eq-3
returns-then-eq-3 c =
    alone string_bytes c.args.words.now c.word-item.result (omega arith) (omega arith) c.word-item.is
    ∙ ap (λ w. w ∷ []) (sym c.as_str-else-eq-2.ensures.value ∙ same_word _ _ c.eq-else-eq-2.result c.eq-else-eq-2.ensures c.if-eq-3.true)

pub returns-then-eq-4 : goal.returns-then-eq-4
returns-then-eq-4 c =
    let word = sym c.as_str-in-len2.ensures.value ∙ same_word _ _ c.eq-in-len2.result c.eq-in-len2.ensures c.if-eq-4.true in
    let name = sym c.as_str-then-eq-4.ensures.value in
    two string_bytes c.args.words.now c.word-item-then-words-lt3.result c.name-item.result (omega arith) (omega arith) c.word-item-then-words-lt3.is c.name-item.is
    ∙ ap (λ w. w ∷ string_bytes c.name-item.result ∷ []) word ∙ ap (λ n. codes "get" ∷ n ∷ []) name
