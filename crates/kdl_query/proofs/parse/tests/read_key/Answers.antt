use Rattle.std.proofs.Common.{refl, subst, sym, ◌∙◌}
use Rattle.std.specs.Str.{chars}
use Rattle.kdl_text.proofs.Looking.MovesJoin.{moves_then}
use Rattle.kdl_value.specs.Tree.{text_of}
use Rattle.kdl_query.specs.Data.{property}
use Rattle.kdl_query.specs.Internal.QueryReading.{Joins, KeyPiece}
use Rattle.kdl_query.specs.Tree.{accessor_says}
use Rattle.kdl_query.proofs.Keys.{apart_key, back_at, bare_there, no_joined, quoted_key, refused_at}
use Rattle.kdl_query.proofs.Reading.{after_still}
use Rattle.kdl_query.proofs.parse.tests.read_key.Goals as goal

pub returns-then-is_quoted : goal.returns-then-is_quoted
returns-then-is_quoted c =
    let name = after_still text_of _ _ _ _ (record { rest = c.begins_quoted-is_quoted.ensures.rest; moves = c.begins_quoted-is_quoted.ensures.moves }) c.in_ok-name.ensures in
    record { returns = KeyPiece.piece (quoted_key _ _ _ name.returns (sym c.begins_quoted-is_quoted.ensures.result ∙ c.if-is_quoted.true)); moves = name.moves }

pub returns-then-is_joined : goal.returns-then-is_joined
returns-then-is_joined c =
    let name = after_still text_of _ _ _ _ (record { rest = c.begins_quoted-is_quoted.ensures.rest; moves = c.begins_quoted-is_quoted.ensures.moves }) c.in_ok-name.ensures in
    let bare = bare_there _ _ _ (sym c.begins_quoted-is_quoted.ensures.result ∙ c.if-is_quoted.false) name.returns in
    refused_at accessor_says c.refuse.result _ _ (back_at _ _ _ (moves_then name.moves c.if-is_joined.ensures.moves) c.refuse.ensures.moved c.checkpoint-start.ensures.rest c.checkpoint-start.ensures.at)
    (no_joined _ _ _ name.returns bare (subst (λ z. Joins (chars z) c.read_name.new.cursor.rest) c.as_str.ensures.value (c.if-is_joined.ensures.result.0 refl)))

pub returns : goal.returns
returns c =
    let name = after_still text_of _ _ _ _ (record { rest = c.begins_quoted-is_quoted.ensures.rest; moves = c.begins_quoted-is_quoted.ensures.moves }) c.in_ok-name.ensures in
    let key = apart_key _ _ _ name.returns (λ j. let k = c.if-is_joined.ensures.result.1 (subst (λ z. Joins (chars z) c.read_name.new.cursor.rest) (sym c.as_str.ensures.value) j) in cc) in
    record { returns = subst (λ z. KeyPiece c.args.cursor.now.rest z (property (text_of c.in_ok-name.name))) (sym c.if-is_joined.ensures.rest) (KeyPiece.piece key); moves = moves_then name.moves c.if-is_joined.ensures.moves }
