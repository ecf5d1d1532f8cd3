use Rattle.std.proofs.Common.{◌≡◌, None, Some, ap, false, refl, subst, sym, true, ◌∙◌}
use Rattle.kdl_text.specs.Internal.Here.{first}
use Rattle.kdl_text.specs.Internal.Reading.{Reads}
use Rattle.kdl_text.specs.Trivia.{Ws}
use Rattle.kdl_query.specs.QueryText.{QuerySpace}
use Rattle.kdl_query.proofs.Spacing.{newline_reads, ws_reads}
use Rattle.kdl_query.proofs.parse.names.passes_space.Goals as goal
use Rattle.kdl_query.proofs.parse.names.passes_space.Goals.{in_default-via-in-Some+in_default, in_default-via-in_default}

pub returns-then-eat_ws-clause-reads : goal.returns-then-eat_ws-clause-reads
returns-then-eat_ws-clause-reads c = rw c.if-eat_ws.true (subst (λ s. Reads QuerySpace true s c.eat_ws.new.cursor.rest) (ap (λ z. z.rest) c.look.ensures.moved) (ws_reads _ _ c.if-eat_ws.ensures.reads))

pub returns-else-eat_ws-clause-reads : goal.returns-else-eat_ws-clause-reads
returns-else-eat_ws-clause-reads c =
    let at = ap (λ z. z.rest) c.look.ensures.moved in
    let no_backslash : first c.args.cursor.now.rest ≡ Some 92 → ⊥ = λ e. elim c.in_default.branch [
      | in_default-via-in-Some+in_default w ↦
          let all : Some w.in_default.field-0 ≡ Some 92 = sym w.in_default.is ∙ c.look.ensures.result ∙ e in
          w.in_default.field-0-test.1 (cc (all))
      | in_default-via-in_default w ↦
          let all : None ≡ Some 92 = sym w.in_default.is ∙ c.look.ensures.result ∙ e in
          absurd (cc (all))
    ] in
    newline_reads c.newline.result _ _ _ no_backslash (subst (λ s. Reads Ws false s c.eat_ws.new.cursor.rest) at c.if-eat_ws.ensures.reads) (c.if-eat_ws.ensures.stays refl ∙ at) c.newline.ensures.reads
