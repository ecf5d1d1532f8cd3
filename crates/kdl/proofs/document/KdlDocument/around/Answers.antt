use Rattle.kdl.proofs.Common.{◌≡◌, ap, ◌∙◌, false, length, refl, rules, true, document_tree, the_lemmas, out-KdlDocument, Around, formats_in_line, is_on_one_line, document_format_tree}
use Rattle.kdl.proofs.LayingOut.Lines.{around_if}
use Rattle.kdl.proofs.document.KdlDocument.around.Goals as goal
use Rattle.kdl.proofs.document.KdlDocument.around.Goals.{else-layout-via-then-layout+else-is_on_one_line, else-layout-via-else-layout}

pub returns-then-is_on_one_line-clause-formatted : goal.returns-then-is_on_one_line-clause-formatted
returns-then-is_on_one_line-clause-formatted c e =
    let d = c.args.self.now in
    let g = document_format_tree c.in_ok-braces.braces in
    let a : Around = record { braces = c.new-braces.result; line = c.in_ok-line.line } in
    let here : true ≡ is_on_one_line (document_tree d) = search rules in
    let count : c.len.result ≡ length (out-KdlDocument d).nodes.items = search (rules, the_lemmas) in
    (g, c.in_ok-braces.ensures.formatted e, around_if c.args.layout.now d g a true true c.if-layout.true here (c.new-braces.ensures, c.in_ok-line.ensures ∙ ap formats_in_line count))

pub returns-clause-formatted : goal.returns-clause-formatted
returns-clause-formatted c e =
    let d = c.args.self.now in
    let g = document_format_tree c.in_ok-braces.braces in
    let a : Around = record { braces = c.in_ok-braces.braces; line = c.new-line.result } in
    elim c.else-layout.branch [
      | else-layout-via-then-layout+else-is_on_one_line w ↦
          let here : false ≡ is_on_one_line (document_tree d) = search rules in
          (g, c.in_ok-braces.ensures.formatted e, around_if c.args.layout.now d g a true false w.if-layout.true here (refl, c.new-line.ensures.items))
      | else-layout-via-else-layout w ↦
          (g, c.in_ok-braces.ensures.formatted e, around_if c.args.layout.now d g a false (is_on_one_line (document_tree d)) w.if-layout.false refl (refl, c.new-line.ensures.items))
    ]
