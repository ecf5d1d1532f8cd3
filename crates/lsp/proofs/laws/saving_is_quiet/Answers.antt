use Rattle.std.proofs.Common.{arith, ◌≡◌, ◌≢◌, IfSome, IsSomeAnd, ap, codes, get_or, length, subst, sym}
use Rattle.lsp.specs.Messages.{IsIgnored, method_of}
use Rattle.lsp.proofs.Texts.{saving_is_object}
use Rattle.lsp.proofs.laws.saving_is_quiet.Goals as goal

pub returns : goal.returns
returns c =
    let exit : codes "textDocument/didSave" ≢ codes "exit" = λ e. (let l : 20 ≡ 4 = ap length e in absurd (omega (arith, l))) in
    let change : codes "textDocument/didSave" ≢ codes "textDocument/didChange" = λ e. (let l : 20 ≡ 22 = ap length e in absurd (omega (arith, l))) in
    let close : codes "textDocument/didSave" ≢ codes "textDocument/didClose" = λ e. (let l : 20 ≡ 21 = ap length e in absurd (omega (arith, l))) in
    let opened : codes "textDocument/didSave" ≢ codes "textDocument/didOpen" = λ e. (let l = ap (λ b. get_or b 16 0) e in absurd (omega (arith, l))) in
    let ignored : IsIgnored (codes "textDocument/didSave") = (exit, opened, change, close) in
    subst (λ o. IsSomeAnd o (λ j. IfSome (method_of j) IsIgnored)) (sym saving_is_object) ignored
