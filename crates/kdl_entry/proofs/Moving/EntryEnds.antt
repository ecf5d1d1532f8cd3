-- What follows a piece of an entry is an end of the text.
use Rattle.std.proofs.Common.{Bool, Option}
use Rattle.kdl_text.specs.Chars.{Text, Star, Plus, plus}
use Rattle.kdl_text.specs.Trivia.{NodeSpace, LineSpace, Slashdash}
use Rattle.kdl_text.proofs.Looking.Ends.{End, here, also, then, past, end_star}
use Rattle.kdl_text.proofs.Spacing.SpacePieces.{node_space_end, line_space_end, slashdash_end}
use Rattle.kdl_value.specs.Data.{Value}
use Rattle.kdl_entry.specs.Data.{Entry}
use Rattle.kdl_entry.specs.Entries.{IsString, string, IsPlainValue, a_string, a_plain, IsType, parens, MaybeType, untyped, typed, IsValue, value, IsEntry, property, argument}
use Rattle.kdl_entry.specs.Places.{DroppedEntry, dropped}
use Rattle.kdl_syntax.proofs.Lexing.TokenUnique.{end_of}
use Rattle.kdl_syntax.proofs.Lexing.StringUnique.{string_end, plain_end}

pub end_node_space : {s r : Text} → NodeSpace s r → End s r
end_node_space n = end_of (node_space_end n)

pub end_line_space : {s r : Text} → LineSpace s r → End s r
end_line_space n = end_of (line_space_end n)

pub end_spaces : {s r : Text} → Star NodeSpace s r → End s r
end_spaces ss = end_star (λ s r n. end_node_space n) ss

pub end_lines : {s r : Text} → Star LineSpace s r → End s r
end_lines ss = end_star (λ s r n. end_line_space n) ss

pub end_some : {s r : Text} → Plus NodeSpace s r → End s r
end_some (plus n ss) = then (end_node_space n) (end_spaces ss)

pub end_slashdash : {s r : Text} → Slashdash s r → End s r
end_slashdash m = end_of (slashdash_end m)

pub end_string : {wide : Bool} {s r v : Text} → IsString wide s r v → End s r
end_string (string p e) = string_end p

pub end_plain : {wide : Bool} {s r : Text} {v : Value} → IsPlainValue wide s r v → End s r
end_plain (a_string d) = end_string d
end_plain (a_plain p e) = plain_end p

end_parens : {wide : Bool} {s r v : Text} → IsType wide s r v → End s r
end_parens (parens ss d us) = also 40 (then (end_spaces ss) (then (end_string d) (past (end_spaces us))))

pub end_type : {wide : Bool} {s r : Text} {y : Option Text} → MaybeType wide s r y → End s r
end_type untyped = here
end_type (typed t ss) = then (end_parens t) (end_spaces ss)

end_value : {wide : Bool} {s r : Text} {y : Option Text} {v : Value} → IsValue wide s r y v → End s r
end_value (value y d) = then (end_type y) (end_plain d)

pub end_entry : {wide : Bool} {s r : Text} {e : Entry} → IsEntry wide s r e → End s r
end_entry (property k ss us v) = then (end_string k) (then (past (end_spaces ss)) (then (end_spaces us) (end_value v)))
end_entry (argument v) = end_value v

pub end_dropped : {s r : Text} → DroppedEntry s r → End s r
end_dropped (dropped ss m i) = then (end_spaces ss) (then (end_slashdash m) (end_entry i))
