use Rattle.std.proofs.Common.{sym, subst}
use Rattle.kdl_text.proofs.Looking.MovesJoin.{moves_then}
use Rattle.kdl_value.specs.Tree.{text_of}
use Rattle.kdl_path.specs.PathText.{IsName}
use Rattle.kdl_path.proofs.PathReads.{bare_is, no_bare, no_bare_end, no_read}
use Rattle.kdl_path.proofs.parse.bare_name.Goals as goal

pub returns-in_default : goal.returns-in_default
returns-in_default c = no_read text_of _ _ _ _ c.at-at.ensures (no_bare _ _ c.bare_fault-fault.ensures.rest c.requires (λ t u b. c.in_default.ensures.only t u b)) (moves_then c.bare_fault-fault.ensures.moves c.in_default.ensures.moves)

pub returns-then-not-ends_name : goal.returns-then-not-ends_name
returns-then-not-ends_name c = no_read text_of _ _ _ _ c.at-at.ensures
    (no_bare_end _ _ _ _ c.bare_fault-fault.ensures.rest c.in-Some.ensures.found (λ h. let k = c.ends_name.ensures.result.1 h in let l = c.if-not-ends_name.true in absurd cc))
    (moves_then c.bare_fault-fault.ensures.moves (moves_then c.bare_string.ensures.moves c.ends_name.ensures.moves))

pub returns : goal.returns
returns c = record {
  returns = subst (IsName _ _) (sym c.in_ok-to_string.ensures) (bare_is _ _ _ _ _ c.bare_fault-fault.ensures.rest c.ends_name.ensures.rest c.requires c.in-Some.ensures.found (c.ends_name.ensures.result.0 (let l = c.if-not-ends_name.false in cc)));
  moves = moves_then c.bare_fault-fault.ensures.moves (moves_then c.bare_string.ensures.moves c.ends_name.ensures.moves);
}
