-- What a document says once a property of one of its nodes is set.
use Rattle.kdl.proofs.Common.{◌≡◌, ℕ, Bool, true, false, List, [], ◌∷◌, Some, option_and_then, option_map, refl, ap, subst, ◌∙◌, sym, bytes_eq-Decides, encodes, one_answer, IsUtf8, chars, Text, Value, Identifier, identifier_tree, same_text, there, with_entries, node_named, with_node_named, IsSet, entries_of, property_place, property_value, said_argument, said_children, said_node, said_property, said_type, document_says, node_says, KdlNode, KdlDocument, out-KdlNode, out-roll-KdlNode}
use Rattle.std.proofs.Math.Utf8.{scalars}
use Rattle.std.proofs.lemmas.Bool.{true≢false}
use Rattle.std.proofs.lemmas.Str.{chars-encodes, is_utf8-from_IsUtf8, scalars-chars}
use Rattle.std.specs.Str.{is_utf8}
use Rattle.kdl.specs.Fields.{held_entries}
use Rattle.kdl.specs.Said.{IsSetInData}
use Rattle.kdl.proofs.Finding.NodesFound.{node_found, node_others}
use Rattle.kdl.proofs.Finding.SaidLookups.{Tests, argument_said, children_said, node_said, node_tested, property_said, property_tested, same_chars, type_said, value_in, value_of_says}

-- bytes that no text has
no_text : IsUtf8 (255 ∷ []) → ⊥
unfolding is_utf8 chars
no_text u = true≢false (sym (is_utf8-from_IsUtf8 (255 ∷ []) u))

-- the bytes by which names are compared with a text, which may be none that memory can hold
record Named (q : Text) : Type 0 where
  bytes : List ℕ
  tests : Tests bytes (λ t. same_text t q)

named : (q : Text) → Named q
named q = go (scalars q) refl
  where
    go : (b : Bool) → scalars q ≡ b → Named q
    go true h = record {
      bytes = encodes q;
      tests = subst (λ (t : Text). Tests (encodes q) (λ u. same_text u t)) (chars-encodes q h) (same_chars (encodes q) (q, (h, refl)));
    }
    go false h = record {
      bytes = 255 ∷ [];
      tests = record {
        same = λ b u.
            let texts = bytes_eq-Decides (chars b) q in
            one_answer _ _ (bytes_eq-Decides b (255 ∷ [])) (
              λ t. absurd (true≢false (sym (scalars-chars b u) ∙ ap scalars (texts.0 t) ∙ h)),
              λ e. absurd (no_text (subst IsUtf8 e u)),
            );
      };
    }

-- a text of these bytes is the one that was compared
only : (q : Text) (k : Named q) (b : List ℕ) → IsUtf8 b → b ≡ k.bytes → chars b ≡ q
only q k b u e = (bytes_eq-Decides (chars b) q).0 (sym (k.tests.same b u) ∙ (bytes_eq-Decides b k.bytes).1 e)

property_named : (q : Text) (k : Named q) (n : KdlNode) → property_value k.bytes n ≡ said_property q (node_says n)
property_named q k n = value_of_says (there (property_place k.bytes n) (entries_of n)) ∙ ap (option_map value_in) (property_tested k.bytes (λ t. same_text t q) k.tests n)

called : (q : Text) (k : Named q) (d : KdlDocument) → option_map node_says (node_named k.bytes d) ≡ said_node q (document_says d)
called q k d = node_tested k.bytes (λ t. same_text t q) k.tests d

-- the property r of the first node s
pub property_set : (s r : List ℕ) (v : Value) (d : KdlDocument) (n m : KdlNode) → IsUtf8 s → IsUtf8 r → Some n ≡ node_named s d → m ≡ with_entries n (held_entries m) → IsSet r v n m
    → IsSetInData (chars s) (chars r) v (document_says d) (document_says (with_node_named s d m))
property_set s r v d n m us ur h rest set =
    let e = with_node_named s d m in
    let fields = ap out-KdlNode rest ∙ out-roll-KdlNode (record (out-KdlNode n) { entries = held_entries m }) in
    let name : (out-KdlNode m).name ≡ (out-KdlNode n).name = ap (λ x. x.name) fields in
    let was : said_node (chars s) (document_says d) ≡ Some (node_says n) = sym (node_said s d us) ∙ ap (option_map node_says) (sym h) in
    let is : said_node (chars s) (document_says e) ≡ Some (node_says m) = sym (node_said s e us) ∙ ap (option_map node_says) (node_found s n m d (sym h) name) in
    record {
      found = ap (option_and_then (said_property (chars r))) is ∙ sym (property_said r m ur) ∙ set.found;
      others = λ q f.
          let k = named q in
          ap (option_and_then (said_property q)) is ∙ sym (property_named q k m) ∙ set.others k.bytes (λ e. f (only q k r ur e)) ∙ property_named q k n ∙ sym (ap (option_and_then (said_property q)) was);
      arguments = λ i. ap (option_and_then (said_argument i)) is ∙ sym (argument_said i m) ∙ set.arguments i ∙ argument_said i n ∙ sym (ap (option_and_then (said_argument i)) was);
      ty =
          ap (option_and_then said_type) is
          ∙ sym (type_said m) ∙ ap (λ x. option_map (λ (i : Identifier). i.value) (option_map identifier_tree x.ty)) fields ∙ type_said n
          ∙ sym (ap (option_and_then said_type) was);
      children = ap (option_and_then said_children) is ∙ sym (children_said m) ∙ ap (λ x. option_map document_says x.children) fields ∙ children_said n ∙ sym (ap (option_and_then said_children) was);
      nodes = λ q f.
          let k = named q in
          sym (called q k e) ∙ ap (option_map node_says) (node_others s k.bytes n m d (sym h) name (λ e. f (only q k s us e))) ∙ called q k d;
    }
