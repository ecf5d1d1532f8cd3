-- The JSON of data that memory can hold reads back as its tokens, and is that of no other data.
use Rattle.std.proofs.Common.{◌≡◌, ℕ, Bool, true, false, List, [], ◌∷◌, Option, Some, None, refl, ap, subst, sym}
use Rattle.std.specs.Prelude.{◌↔◌, codes}
use Rattle.std.specs.Str.{encode_utf8_all}
use Rattle.json.specs.Token.{Token}
use Rattle.json.specs.Print.{ArePrintable, IsPrintable}
use Rattle.json.proofs.Printed.Tokens.{tokens-print}
use Rattle.kdl_text.specs.Chars.{Text}
use Rattle.kdl_value.specs.Data.{Value, text, integer, float, truth, null}
use Rattle.kdl_value.specs.WellFormed.{IsWellFormed}
use Rattle.kdl_entry.specs.Data.{Entry}
use Rattle.kdl_grammar.specs.Data.{Node, node, Children, no_children, children, Nodes, none, first}
use Rattle.kdl_layout.specs.WellFormed.{AreWellFormed, AreWellFormedChildren, AreWellFormedEntries, IsWellFormedEntry, IsWellFormedNode}
use Rattle.kdl_json.specs.Form.{IsJsonOf, children_tokens, document_tokens, entries_tokens, entry_tokens, float_tokens, is_json_number, json_text, member_tokens, node_tokens, nodes_tokens, value_tokens}
use Rattle.kdl_json.proofs.Numbers.{IsNumber-from_test, IsNumber-written}
use Rattle.kdl_json.proofs.Unique.{one_document}

more : (t : Token) (ts : List Token) → IsPrintable t → ArePrintable ts → ArePrintable (t ∷ ts)
unfolding ArePrintable
more t ts p h = (p, h)

float_more : (b : Bool) (u : List ℕ) (ts : List Token) → is_json_number u ≡ b → ArePrintable ts → ArePrintable (float_tokens u b ts)
float_more true u ts e h = more _ _ (IsNumber-from_test u e) h
float_more false u ts e h = more _ _ tt (more _ _ tt (more _ _ tt (more _ _ tt h)))

value_more : (x : Value) (ts : List Token) → IsWellFormed x → ArePrintable ts → ArePrintable (value_tokens x ts)
value_more (text s) ts f h = more _ _ tt h
value_more (integer z) ts f h = more _ _ (IsNumber-written z f) h
value_more (float s) ts f h = float_more (is_json_number (encode_utf8_all s)) (encode_utf8_all s) ts refl h
value_more (truth b) ts f h = more _ _ tt h
value_more null ts f h = more _ _ tt h

member_more : (k : List ℕ) (o : Option Text) (ts : List Token) → ArePrintable ts → ArePrintable (member_tokens k o ts)
member_more k None ts h = h
member_more k (Some s) ts h = more _ _ tt (more _ _ tt h)

entry_more : (e : Entry) (ts : List Token) → IsWellFormedEntry e → ArePrintable ts → ArePrintable (entry_tokens e ts)
entry_more e ts f h = more _ _ tt (member_more (codes "name") e.key _ (member_more (codes "type") e.ty _ (more _ _ tt (value_more e.value _ f.2 (more _ _ tt h)))))

entries_more : (es : List Entry) (ts : List Token) → AreWellFormedEntries es → ArePrintable ts → ArePrintable (entries_tokens es ts)
entries_more [] ts f h = h
entries_more (e ∷ es) ts f h = entry_more e _ f.0 (entries_more es ts f.1 h)

mutual
  node_more : (n : Node) (ts : List Token) → IsWellFormedNode n → ArePrintable ts → ArePrintable (node_tokens n ts)
  node_more (node ty name es k) ts f h =
      more _ _ tt (more _ _ tt (more _ _ tt (member_more (codes "type") ty _ (more _ _ tt (more _ _ tt (entries_more es _ f.2 (more _ _ tt (children_more k _ f.3 (more _ _ tt h)))))))))

  children_more : (k : Children) (ts : List Token) → AreWellFormedChildren k → ArePrintable ts → ArePrintable (children_tokens k ts)
  children_more no_children ts f h = h
  children_more (children x) ts f h = more _ _ tt (more _ _ tt (nodes_more x _ f (more _ _ tt h)))

  nodes_more : (x : Nodes) (ts : List Token) → AreWellFormed x → ArePrintable ts → ArePrintable (nodes_tokens x ts)
  nodes_more none ts f h = h
  nodes_more (first n x) ts f h = node_more n _ f.0 (nodes_more x ts f.1 h)

nothing_more : ArePrintable []
unfolding ArePrintable
nothing_more = tt

pub text_is_json : (x : Nodes) → AreWellFormed x → IsJsonOf (json_text x) x
text_is_json x f = tokens-print (document_tokens x) (more _ _ tt (nodes_more x _ f (more _ _ tt nothing_more)))

pub same_text : (x y : Nodes) → AreWellFormed x → AreWellFormed y → (json_text x ≡ json_text y) ↔ (x ≡ y)
same_text x y f g = (
  λ e. one_document (json_text x) x y f g (text_is_json x f) (subst (λ (t : List ℕ). IsJsonOf t y) (sym e) (text_is_json y g)),
  λ e. ap json_text e,
)
