use Rattle.std.proofs.Common.{refl}
use Rattle.kdl_syntax.specs.declared.lexer.TokenKind.TheVariants.{String, Value}
use Rattle.kdl_parser.proofs.Stepping.Events.{takes_as, is_mark}
use Rattle.kdl_parser.proofs.builder.Builder.take_live.Goals as goal

pub returns-in-String : goal.returns-in-String
returns-in-String g c =
    takes_as g.N.ParsedNode.tree c.args.self.now c.take_string.new.self c.args.at.now c.in-Some.event c.take_string.result
    c.args.kind (String c.in-String.text) _ c.requires.building c.in-Some.ensures c.in-String.is refl c.take_string.ensures

pub returns-in-Value : goal.returns-in-Value
returns-in-Value g c =
    takes_as g.N.ParsedNode.tree c.args.self.now c.take_value.new.self c.args.at.now c.in-Some.event c.take_value.result
    c.args.kind (Value c.in-Value.value) _ c.requires.building c.in-Some.ensures c.in-Value.is refl c.take_value.ensures

pub returns-in_default-kind : goal.returns-in_default-kind
returns-in_default-kind g c =
    takes_as g.N.ParsedNode.tree c.args.self.now c.take_mark.new.self c.args.at.now c.in-Some.event c.take_mark.result
    c.args.kind c.args.kind _ c.requires.building c.in-Some.ensures refl (is_mark g.N.ParsedNode.tree c.args.self.now c.in-Some.event c.args.at.now c.args.kind c.in_default-kind.not-String c.in_default-kind.not-Value) c.take_mark.ensures
