-- Tokens are those of at most one document's data.
use Rattle.std.proofs.Common.{◌≡◌, ℕ, ℤ, Bool, true, false, List, [], ◌∷◌, Option, Some, None, refl, ap, ◌∙◌, sym, subst}
use Rattle.std.specs.Prelude.{FitsSigned, codes}
use Rattle.std.specs.Int.{w128}
use Rattle.std.specs.Fmt.{signed_decimal}
use Rattle.std.specs.Str.{encode_utf8_all}
use Rattle.std.proofs.lemmas.Str.{encodes-IsAscii, encodes_same}
use Rattle.json.specs.Token as json'
use Rattle.json.specs.Token.{Token}
use Rattle.kdl_text.specs.Chars.{Text}
use Rattle.kdl_text.specs.Numbers.{FloatText}
use Rattle.kdl_value.specs.Data.{Value, text, integer, float, truth, null}
use Rattle.kdl_value.specs.WellFormed.{IsWellFormed}
use Rattle.kdl_entry.specs.Data.{Entry}
use Rattle.kdl_grammar.specs.Data.{Node, node, Children, no_children, children, Nodes, none, first}
use Rattle.kdl_layout.specs.WellFormed.{AreWellFormed, AreWellFormedChildren, AreWellFormedEntries, IsWellFormedEntry, IsWellFormedNode}
use Rattle.kdl_json.specs.Form.{IsJsonOf, children_tokens, entries_tokens, entry_tokens, float_tokens, head_tokens, is_json_number, member_tokens, node_tokens, nodes_tokens, value_tokens}
use Rattle.kdl_json.specs.Keys.{NotKey}
use Rattle.kdl_json.proofs.Keys.{no_name, other_key, type_entries, type_value}
use Rattle.kdl_json.proofs.Numbers.{IsAscii-written, whole_no_float, written_once}
use Rattle.kdl_json.proofs.Values.{null_read, text_read, truth_read}

after : {t u : Token} {ts us : List Token} → t ∷ ts ≡ u ∷ us → ts ≡ us
after {t} {u} {ts} {us} e = cc

-- a value
no_clash : (z : ℤ) (s : Text) → FitsSigned w128 z → FloatText s → encode_utf8_all s ≡ signed_decimal z → ⊥
no_clash z s f g e =
    let same : s ≡ signed_decimal z = encodes_same s (signed_decimal z) (e ∙ sym (encodes-IsAscii (signed_decimal z) (IsAscii-written z f))) in
    whole_no_float z f (subst FloatText same g)

float_once : (b c : Bool) (u v : List ℕ) (ts us : List Token) → float_tokens u b ts ≡ float_tokens v c us → (u ≡ v) × (ts ≡ us)
float_once true true u v ts us e = (cc, cc)
float_once true false u v ts us e = cc
float_once false true u v ts us e = cc
float_once false false u v ts us e = (cc, cc)

float_whole : (b : Bool) (u : List ℕ) (z : ℤ) (ts us : List Token) → float_tokens u b ts ≡ json'.number (signed_decimal z) ∷ us → u ≡ signed_decimal z
float_whole true u z ts us e = cc
float_whole false u z ts us e = cc

value_once : (x y : Value) (ts us : List Token) → IsWellFormed x → IsWellFormed y → value_tokens x ts ≡ value_tokens y us → (x ≡ y) × (ts ≡ us)
value_once (text s) y ts us f g e = let k = text_read (encode_utf8_all s) (text s) y ts us (record { characters = s; is = refl; bytes = refl }) e in (k.is, k.rest)
value_once (truth b) y ts us f g e = let k = truth_read b y ts us e in (k.is, k.rest)
value_once null y ts us f g e = let k = null_read y ts us e in (k.is, k.rest)
value_once (integer z) (text s) ts us f g e = cc
value_once (integer z) (truth b) ts us f g e = cc
value_once (integer z) null ts us f g e = cc
value_once (integer z) (integer y) ts us f g e = let same : signed_decimal z ≡ signed_decimal y = cc in (ap integer (written_once z y f g same), cc)
value_once (integer z) (float s) ts us f g e = absurd (no_clash z s f g (float_whole (is_json_number (encode_utf8_all s)) (encode_utf8_all s) z us ts (sym e)))
value_once (float s) (text t) ts us f g e = let k = text_read (encode_utf8_all t) (text t) (float s) us ts (record { characters = t; is = refl; bytes = refl }) (sym e) in (sym k.is, sym k.rest)
value_once (float s) (truth b) ts us f g e = let k = truth_read b (float s) us ts (sym e) in (sym k.is, sym k.rest)
value_once (float s) null ts us f g e = let k = null_read (float s) us ts (sym e) in (sym k.is, sym k.rest)
value_once (float s) (integer z) ts us f g e = absurd (no_clash z s g f (float_whole (is_json_number (encode_utf8_all s)) (encode_utf8_all s) z ts us e))
value_once (float s) (float t) ts us f g e =
    let k = float_once (is_json_number (encode_utf8_all s)) (is_json_number (encode_utf8_all t)) (encode_utf8_all s) (encode_utf8_all t) ts us e in
    (ap float (encodes_same s t k.0), k.1)

-- a key and a string, if there is one
member_once : (k : List ℕ) (o p : Option Text) (ts us : List Token) → NotKey k ts → NotKey k us → member_tokens k o ts ≡ member_tokens k p us → (o ≡ p) × (ts ≡ us)
member_once k None None ts us n m e = (refl, e)
member_once k None (Some s) ts us n m e = absurd (n _ e)
member_once k (Some s) None ts us n m e = absurd (m _ (sym e))
member_once k (Some s) (Some t) ts us n m e = let same : encode_utf8_all s ≡ encode_utf8_all t = cc in (ap Some (encodes_same s t same), cc)

-- an entry, and entries
abbrev entry_of : Option Text → Option Text → Value → Entry
entry_of name ty value = record { key = name; ty = ty; value = value }

same_entry : (x y : Entry) → x.key ≡ y.key → x.ty ≡ y.ty → x.value ≡ y.value → x ≡ y
same_entry x y n t v =
    ap (λ (k : Option Text). entry_of k x.ty x.value) n ∙ ap (λ (u : Option Text). entry_of y.key u x.value) t ∙ ap (entry_of y.key y.ty) v

entry_once : (x y : Entry) (ts us : List Token) → IsWellFormedEntry x → IsWellFormedEntry y → entry_tokens x ts ≡ entry_tokens y us → (x ≡ y) × (ts ≡ us)
entry_once x y ts us f g e =
    let v = value_tokens x.value (json'.end_object ∷ ts) in
    let w = value_tokens y.value (json'.end_object ∷ us) in
    let n = member_once (codes "name") x.key y.key _ _ (no_name x.ty v) (no_name y.ty w) (after e) in
    let t = member_once (codes "type") x.ty y.ty _ _ (other_key (codes "value") (codes "type") v type_value) (other_key (codes "value") (codes "type") w type_value) n.1 in
    let k = value_once x.value y.value (json'.end_object ∷ ts) (json'.end_object ∷ us) f.2 g.2 (after t.1) in
    (same_entry x y n.0 t.0 k.0, after k.1)

entries_once : (es fs : List Entry) (ts us : List Token) → AreWellFormedEntries es → AreWellFormedEntries fs → entries_tokens es (json'.end_array ∷ ts) ≡ entries_tokens fs (json'.end_array ∷ us) → (es ≡ fs) × (ts ≡ us)
entries_once [] [] ts us f g e = (refl, after e)
entries_once [] (y ∷ fs) ts us f g e = cc
entries_once (x ∷ es) [] ts us f g e = cc
entries_once (x ∷ es) (y ∷ fs) ts us f g e =
    let h = entry_once x y _ _ f.0 g.0 e in
    let k = entries_once es fs ts us f.1 g.1 h.1 in
    (ap (λ (z : Entry). z ∷ es) h.0 ∙ ap (λ (l : List Entry). y ∷ l) k.0, k.1)

-- a node up to its entries
record SameHead (ty uy : Option Text) (name other : Text) (es fs : List Entry) (ts us : List Token) : Type 0 where
  types : ty ≡ uy
  names : name ≡ other
  entries : es ≡ fs
  rest : ts ≡ us

head_once : (ty uy : Option Text) (name other : Text) (es fs : List Entry) (ts us : List Token) → AreWellFormedEntries es → AreWellFormedEntries fs → head_tokens ty name es ts ≡ head_tokens uy other fs us → SameHead ty uy name other es fs ts us
head_once ty uy name other es fs ts us f g e =
    let s : encode_utf8_all name ≡ encode_utf8_all other = cc in
    let t = member_once (codes "type") ty uy _ _ (other_key (codes "entries") (codes "type") _ type_entries) (other_key (codes "entries") (codes "type") _ type_entries) (after (after (after e))) in
    let k = entries_once es fs ts us f g (after (after t.1)) in
    record { types = t.0; names = encodes_same name other s; entries = k.0; rest = k.1 }

mutual
  node_once : (n m : Node) (ts us : List Token) → IsWellFormedNode n → IsWellFormedNode m → node_tokens n ts ≡ node_tokens m us → (n ≡ m) × (ts ≡ us)
  node_once (node ty name es k) (node uy other fs j) ts us f g e =
      let h = head_once ty uy name other es fs _ _ f.2 g.2 e in
      let c = children_once k j ts us f.3 g.3 h.rest in
      (ap (λ (u : Option Text). node u name es k) h.types ∙ ap (λ (s : Text). node uy s es k) h.names ∙ ap (λ (l : List Entry). node uy other l k) h.entries ∙ ap (node uy other fs) c.0, c.1)

  children_once : (k j : Children) (ts us : List Token) → AreWellFormedChildren k → AreWellFormedChildren j → children_tokens k (json'.end_object ∷ ts) ≡ children_tokens j (json'.end_object ∷ us) → (k ≡ j) × (ts ≡ us)
  children_once no_children no_children ts us f g e = (refl, after e)
  children_once no_children (children y) ts us f g e = cc
  children_once (children x) no_children ts us f g e = cc
  children_once (children x) (children y) ts us f g e =
      let h = nodes_once x y (json'.end_object ∷ ts) (json'.end_object ∷ us) f g (after (after e)) in
      (ap children h.0, after h.1)

  nodes_once : (x y : Nodes) (ts us : List Token) → AreWellFormed x → AreWellFormed y → nodes_tokens x (json'.end_array ∷ ts) ≡ nodes_tokens y (json'.end_array ∷ us) → (x ≡ y) × (ts ≡ us)
  nodes_once none none ts us f g e = (refl, after e)
  nodes_once none (first (node ty name es k) y) ts us f g e = cc
  nodes_once (first (node ty name es k) x) none ts us f g e = cc
  nodes_once (first n x) (first m y) ts us f g e =
      let h = node_once n m _ _ f.0 g.0 e in
      let k = nodes_once x y ts us f.1 g.1 h.1 in
      (ap (λ (l : Node). first l x) h.0 ∙ ap (first m) k.0, k.1)

pub one_document : (t : List ℕ) (x y : Nodes) → AreWellFormed x → AreWellFormed y → IsJsonOf t x → IsJsonOf t y → x ≡ y
one_document t x y f g e h = (nodes_once x y [] [] f g (after (sym e ∙ h))).0
